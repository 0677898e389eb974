-- `frames::lines::stretches` meets its contract. The invariant: the bytes before the first LF are `at` and those before the first LF of what is left.
use Rattle.frames.specs.Lines.{not_end}
use Rattle.laws.specs.Bytes.{span}
use lib.ListN.{length, drop}
use mathlib.Core.Path.{◌≡◌}
use Prim.Native.Nat.{◌+◌, ◌-◌, ◌≤◌}
use Rattle.frames.proofs.lines.stretches.Given as goal

abbrev pub invariant-loop-at : goal.invariant-loop-at
invariant-loop-at l = (l.at ≤ length l.text) × (span not_end l.text ≡ l.at + span not_end (drop l.at l.text))

abbrev pub decreases-loop-at : goal.decreases-loop-at
decreases-loop-at l = length l.text - l.at
