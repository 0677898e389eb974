-- `write::message::sums` meets its contract. The invariant: what the batches before the label come to.
use Rattle.write.proofs.Rounds.{Tallied}
use Rattle.laws.specs.Lists.{total, count}
use Rattle.bundle.specs.Labels.{pick}
use Rattle.collections.specs.Listed.{listed}
use Rattle.profile.specs.Limits.{most_cents, most_collections}
use lib.Dec.{eqb}
use Prim.Native.Nat.{◌*◌}
use Rattle.write.proofs.message.sums.Given as goal

abbrev pub invariant-loop-label : goal.invariant-loop-label
invariant-loop-label l =
    Tallied (λ k. count (eqb k) l.batches.labels.now) most_collections l.batches.count l.label l.transactions
    × Tallied (λ k. total (λ x. x.cents) (pick k l.batches.labels.now (listed l.batches.list.now))) (most_cents * most_collections) l.batches.count l.label l.cents
