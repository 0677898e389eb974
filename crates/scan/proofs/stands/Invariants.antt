-- `scan::stands` meets its contract: the first i bytes are the same, eight more in a round, and then the last eight.
use Prim.Native.Nat.{◌-◌}
use Rattle.scan.proofs.Words.{Alike}
use Rattle.scan.proofs.stands.Given as goal

abbrev pub invariant-loop-i : goal.invariant-loop-i
invariant-loop-i l = Alike l.s l.at l.word 0 l.i

abbrev pub decreases-loop-i : goal.decreases-loop-i
decreases-loop-i l = l.m - l.i
