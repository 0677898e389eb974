-- `frames::hex::in_strides` meets its contract. The invariant: the first i bytes stand in `out`.
use Rattle.frames.specs.Hex.{unhex}
use lib.ListN.{length, take, drop}
use mathlib.Core.Path.{◌≡◌}
use Prim.Native.Nat.{◌-◌, ◌≤◌}
use Rattle.frames.proofs.hex.in_strides.Given as goal

abbrev pub invariant-loop-i : goal.invariant-loop-i
invariant-loop-i l = (length l.out ≡ length l.initial.out) × ((l.i ≤ length l.initial.out) × (take l.i l.out ≡ take l.i (drop l.place (unhex l.line))))

abbrev pub decreases-loop-i : goal.decreases-loop-i
decreases-loop-i l = l.last - l.i
