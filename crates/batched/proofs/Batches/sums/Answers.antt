use Rattle.batched.proofs.Picks.{met-same, met-other, summed-same, summed-other}
use Rattle.collections.specs.Listed.{listed}
use mathlib.Core.Path.{sym}
use Rattle.batched.proofs.Batches.sums.Goals.{then-label-batch, else-label-batch}
use Rattle.batched.proofs.Batches.sums.Goals as goal

pub loop-i-preserved : goal.loop-i-preserved
loop-i-preserved c =
    let b = c.args.self.now in
    let l = c.loop-i in
    let n = b.ready.ready.count in
    elim c.if-label-batch.branch [
      | then-label-batch w ↦ rw (w.transactions-is, w.cents-is) (
        met-same c.args.batch b.labels.now l.i l.transactions l.invariant.0 c.loop-i-test.true (sym w.if-label-batch.true),
        summed-same (listed b.list.now) b.labels.now c.args.batch n l.i c.loop-i-test.true l.cents l.invariant.1 _ (sym w.if-label-batch.true) w.cents-cents.ensures.value w.cents-cents.ensures.upper_bound,
      )
      | else-label-batch w ↦ rw (w.transactions-is, w.cents-is) (
        met-other c.args.batch b.labels.now l.i l.transactions l.invariant.0 c.loop-i-test.true (λ e. w.if-label-batch.false (sym e)),
        summed-other (listed b.list.now) b.labels.now c.args.batch n l.i c.loop-i-test.true l.cents l.invariant.1 (λ e. w.if-label-batch.false (sym e)),
      )
    ]
