-- `daylist::values::high_first` meets its contract. The invariant: v is below its power of 256, and v with the bytes from `at` on is the number.
use Rattle.daylist.specs.Lead.{high_first, high_first_from}
use Rattle.frames.specs.Hex.{unhex}
use lib.ListN.{take, drop}
use mathlib.Core.Path.{◌≡◌}
use Prim.Native.Nat.{◌-◌, ◌<◌, ◌≤◌, ◌^◌}
use Rattle.daylist.proofs.values.high_first.Given as goal

abbrev pub invariant-loop-at : goal.invariant-loop-at
invariant-loop-at l = ((l.from ≤ l.at) × (l.v < 256 ^ (l.at - l.from)))
    × (high_first (take l.count (drop l.from (unhex l.line))) ≡ high_first_from l.v (take (l.end - l.at) (drop l.at (unhex l.line))))
