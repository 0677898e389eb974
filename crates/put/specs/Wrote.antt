-- WHAT A BYTE WRITER PROMISES. Not to be believed: the promise of `write` is write/specs/Write.
--   Wrote o o' bs   the bytes bs are written: the output is the same, its place is past them; where there is room they stand there, and nothing else changes
use Rattle.std.specs.Prelude.{◌+◌, ◌≤◌, ◌≡◌, length}
use Rattle.laws.specs.Bytes.{Bytes}
use Rattle.laws.specs.Put.{put_at}
use Rattle.put.specs.declared.Output.{Output}

pub record Wrote (o o' : Output) (bs : Bytes) : Type 0 where
  pub reference : o'.bytes.ghost_name ≡ o.bytes.ghost_name
  pub end : o'.at ≡ o.at + length bs
  pub same : length o'.bytes.now ≡ length o.bytes.now
  pub is : o.at + length bs ≤ length o.bytes.now → o'.bytes.now ≡ put_at o.bytes.now o.at bs
