use native.Mathlib.Omega.{arith}
use Rattle.bundle.proofs.Ceil.{ceil_le_self}
use Rattle.bundle.proofs.Loops.{met-same, met-other, marked-same, marked_other}
use Rattle.bundle.proofs.mark.Goals.{then-c-code, else-c-code}
use Rattle.bundle.proofs.mark.Goals as goal

pub loop-k-preserved : goal.loop-k-preserved
loop-k-preserved c = let inv =
    c.loop-k.invariant in
    elim c.if-c-code.branch [
      | then-c-code w ↦ rw (w.labels-is, w.placed-is) (met-same _ _ _ _ inv.0 c.loop-k-test.true w.if-c-code.true, marked-same _ _ _ _ _ _ _ inv.1 _ _ (omega arith) w.if-c-code.true inv.0.is (omega arith))
      | else-c-code w ↦ rw (w.labels-is, w.placed-is) (met-other _ _ _ _ inv.0 c.loop-k-test.true w.if-c-code.false, marked_other _ _ _ _ _ _ _ inv.1 w.if-c-code.false)
    ]

pub overflow_add-result : goal.overflow_add-result
overflow_add-result c = omega (arith, c.rounded_up.ensures, ceil_le_self c.loop-k.placed c.args.ceiling (omega arith))
