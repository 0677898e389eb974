use native.Mathlib.Omega.{arith}
use Rattle.bundle.proofs.Loops.{searching_on, searched_new, searched_old, counted-small, labelled_start, labelled_old, labelled_new, labelled_end}
use Rattle.bundle.proofs.label.Goals as goal

pub outer-init : goal.outer-init
outer-init c = labelled_start _ _ _ (omega arith)

pub outer-preserved-then-earlier-code : goal.outer-preserved-then-earlier-code
outer-preserved-then-earlier-code c = labelled_old _ _ _ _ _ c.outer.invariant c.outer-test.true (searched_old _ _ _ c.loop-earlier-test.true c.if-earlier-code.true)

pub loop-earlier-preserved : goal.loop-earlier-preserved
loop-earlier-preserved c = searching_on _ _ _ c.loop-earlier-test.true c.if-earlier-code.false c.loop-earlier.invariant

pub mark-next-requires-clause-first_in_bounds : goal.mark-next-requires-clause-first_in_bounds
mark-next-requires-clause-first_in_bounds c = counted-small _ _ _ _ c.outer.invariant.counted (omega arith)

pub outer-preserved : goal.outer-preserved
outer-preserved c =
    let marked = c.mark-next.ensures in
    rw marked.value (labelled_new _ _ _ _ _ c.outer.invariant _ c.outer-test.true (searched_new _ _ _ c.loop-earlier-test.false c.loop-earlier.invariant) marked.marked)

pub returns-clause-labels_after : goal.returns-clause-labels_after
returns-clause-labels_after c = labelled_end _ _ _ _ _ c.outer.invariant (omega arith)
