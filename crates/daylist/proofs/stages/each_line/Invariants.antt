-- `daylist::stages::each_line` meets its contract. The invariant: the list is judged as its rest from `at` on is, after the lines that are done.
use Rattle.daylist.specs.Walk.{walked, Judges}
use Rattle.frames.specs.Lines.{Line, lines}
use Rattle.profile.specs.declared.ListRefusal.{ListRefusal}
use Rattle.std.specs.Prelude.{Result}
use lib.ListN.{length, drop}
use mathlib.Core.Path.{◌≡◌}
use Prim.Native.Nat.{ℕ, ◌-◌, ◌≤◌}
use Rattle.daylist.proofs.stages.each_line.Given as goal

abbrev pub invariant-loop-at : goal.invariant-loop-at
invariant-loop-at g l =
    (l.done ≤ l.at) × ((f : ℕ → Line → Result (Unit {0}) ListRefusal) → Judges (goal.F-post g l.judge) f → walked f 0 (lines l.list) ≡ walked f l.done (lines (drop l.at l.list)))

abbrev pub decreases-loop-at : goal.decreases-loop-at
decreases-loop-at g l = length l.list - l.at
