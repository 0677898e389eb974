-- `look::run_end` meets its contract: what is to come from i on is what was to come from `at` on, over four bytes of a rank at a time.
use Prim.Native.Nat.{◌+◌, ◌-◌, ◌≤◌}
use mathlib.Core.Path.{◌≡◌}
use lib.ListN.{length, drop}
use Rattle.laws.specs.Bytes.{span}
use Rattle.marks.specs.Ranks.{at_least}
use Rattle.look.proofs.run_end.Given as goal

abbrev pub invariant-loop-i : goal.invariant-loop-i
invariant-loop-i l = (l.i ≤ length l.s) × (l.at + span (at_least l.least) (drop l.at l.s) ≡ l.i + span (at_least l.least) (drop l.i l.s))

abbrev pub decreases-loop-i : goal.decreases-loop-i
decreases-loop-i l = length l.s - l.i
