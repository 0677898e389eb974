use Rattle.batched.proofs.Picks.{written-same, written-other, written-end}
use Rattle.batched.proofs.Going.{going_on, going_end}
use Rattle.put.proofs.Writes.{wrote_nil}
use Rattle.collections.specs.Listed.{listed}
use mathlib.Core.List.{[]}
use mathlib.Core.Path.{sym}
use native.Mathlib.Omega.{arith}
use Rattle.batched.proofs.Batches.put_transactions.Goals.{then-label-batch, else-label-batch}
use Rattle.batched.proofs.Batches.put_transactions.Goals as goal

pub loop-i-preserved : goal.loop-i-preserved
loop-i-preserved c =
    let b = c.args.self.now in
    let l = c.loop-i in
    let n = b.ready.ready.count in
    elim c.if-label-batch.branch [
      | then-label-batch w ↦ rw w.out-is (
        omega (arith, l.invariant.0, w.put_transaction.ensures.upper_bound),
        going_on l.invariant.1 _ _ (written-same (listed b.list.now) b.labels.now c.args.batch n l.i c.loop-i-test.true (sym w.if-label-batch.true)) (rw w.collection.ensures at w.put_transaction.ensures.wrote),
      )
      | else-label-batch w ↦ rw w.out-is (
        omega (arith, l.invariant.0),
        going_on l.invariant.1 [] _ (written-other (listed b.list.now) b.labels.now c.args.batch n l.i c.loop-i-test.true (λ e. w.if-label-batch.false (sym e))) (wrote_nil _),
      )
    ]

pub returns-clause-wrote : goal.returns-clause-wrote
returns-clause-wrote c = going_end c.loop-i.invariant.1 (written-end (listed c.args.self.now.list.now) c.args.self.now.labels.now c.args.batch _ c.loop-i-test.false)
