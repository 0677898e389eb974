-- A LOOP OF WRITERS: what is written so far, with what is still to be written after it, is the whole.
--   Going o₀ whole o rest                the loop began with the output o₀ and has come to the output o, and `rest` is left
--   going_on, going_end                  one piece more is written; nothing is left
use mathlib.Core.List.{[], ◌++◌}
use mathlib.Core.Path.{◌≡◌}
use Rattle.laws.specs.Bytes.{Bytes}
use Rattle.put.specs.declared.Output.{Output}
use Rattle.put.specs.Wrote.{Wrote}
use Rattle.put.proofs.Writes.{wrote_nil, wrote_then}

pub record Going (o₀ : Output) (whole : Bytes) (o : Output) (rest : Bytes) : Type 0 where
  pub then : (o' : Output) → Wrote o o' rest → Wrote o₀ o' whole

module _ {o₀ : Output} {whole : Bytes} {o : Output} {rest : Bytes} (g : Going o₀ whole o rest) where
  pub going_on : {o' : Output} (piece rest' : Bytes) → rest ≡ piece ++ rest' → Wrote o o' piece → Going o₀ whole o' rest'
  going_on {o'} piece rest' e w = record { then = λ o'' v. g.then o'' (rw e (wrote_then piece rest' w v)) }

  pub going_end : rest ≡ [] → Wrote o₀ o whole
  going_end e = g.then o (rw e (wrote_nil o))
