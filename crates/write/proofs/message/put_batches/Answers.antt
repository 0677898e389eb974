use Rattle.write.proofs.Rounds.{batches-go, batches-end}
use Rattle.batched.proofs.Going.{going_on, going_end}
use Rattle.batched.specs.Ready.{creditor_at}
use Rattle.collections.specs.Listed.{listed}
use native.Mathlib.Omega.{arith}
use Rattle.write.proofs.message.put_batches.Goals as goal

pub loop-batch-preserved : goal.loop-batch-preserved
loop-batch-preserved c =
    let b = c.args.batches.now in
    let l = c.loop-batch in (
      omega (arith, l.invariant.0, c.put_batch.ensures.upper_bound),
      going_on l.invariant.1 _ _ (batches-go (creditor_at b.list.now) b.labels.now (listed b.list.now) l.batch b.count c.loop-batch-test.true) c.put_batch.ensures.wrote,
    )

pub returns-clause-wrote : goal.returns-clause-wrote
returns-clause-wrote c =
    let b = c.args.batches.now in
    going_end c.loop-batch.invariant.1 (batches-end (creditor_at b.list.now) b.labels.now (listed b.list.now) c.loop-batch.batch b.count c.loop-batch-test.false)
