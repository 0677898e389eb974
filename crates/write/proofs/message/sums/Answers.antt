use Rattle.write.proofs.Rounds.{tallied_on}
use Rattle.laws.specs.Lists.{total, count}
use Rattle.laws.proofs.Counts.{count_le_length}
use Rattle.bundle.specs.Labels.{pick}
use Rattle.collections.specs.Listed.{listed}
use Rattle.profile.specs.Limits.{most_cents, most_collections}
use lib.Dec.{eqb}
use Prim.Native.Nat.{◌*◌, ◌≤◌}
use native.Mathlib.Omega.{arith}
use Rattle.write.proofs.message.sums.Goals as goal

pub overflow_add-transactions : goal.overflow_add-transactions
overflow_add-transactions c =
    let b = c.args.batches.now in
    let l = c.loop-label in
    omega (arith, c.sums-own.ensures.transactions, count_le_length (eqb l.label) b.labels.now, b.ready.ready.few, b.ready.most, l.invariant.0.few, l.invariant.0.within)

pub overflow_add-cents : goal.overflow_add-cents
overflow_add-cents c =
    let b = c.args.batches.now in
    let l = c.loop-label in
    omega (arith, c.sums-own.ensures.cents_bound, b.ready.ready.few, b.ready.most, l.invariant.1.few, l.invariant.1.within)

pub loop-label-preserved : goal.loop-label-preserved
loop-label-preserved c =
    let b = c.args.batches.now in
    let l = c.loop-label in
    let own = c.sums-own in
    let few : own.result.transactions.0 ≤ most_collections = omega (arith, own.ensures.transactions, count_le_length (eqb l.label) b.labels.now, b.ready.ready.few) in
    let cents-few : own.result.cents.0 ≤ most_cents * most_collections = omega (arith, own.ensures.cents_bound, b.ready.ready.few) in (
      tallied_on (λ k. count (eqb k) b.labels.now) _ _ _ _ l.invariant.0 _ c.loop-label-test.true own.ensures.transactions few,
      tallied_on (λ k. total (λ x. x.cents) (pick k b.labels.now (listed b.list.now))) _ _ _ _ l.invariant.1 _ c.loop-label-test.true own.ensures.cents cents-few,
    )
