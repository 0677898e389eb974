-- `frames::hex::all_digits` meets its contract. The invariant: every byte is a digit where `good` holds and every byte from the index on is one.
use mathlib.Core.Bool.{◌&&◌}
use mathlib.Core.Path.{◌≡◌}
use lib.ListN.{drop}
use Rattle.laws.specs.Bytes.{all}
use Rattle.frames.specs.Hex.{hex_digit}
use Rattle.frames.proofs.hex.all_digits.Given as goal

abbrev pub invariant-loop-c : goal.invariant-loop-c
invariant-loop-c l = all hex_digit l.line ≡ l.good && all hex_digit (drop l.c-index l.line)
