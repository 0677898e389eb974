use Rattle.batched.proofs.Heads.{first_under, first-terms, head_join}
use Rattle.batched.proofs.Picks.{pick-count}
use Rattle.batched.specs.Ready.{creditor_at}
use Rattle.put.proofs.Writes.{wrote_then}
use Rattle.collections.specs.Listed.{Collection, listed}
use Rattle.bundle.specs.Labels.{pick}
use Rattle.written.specs.Written.{no_collection}
use Rattle.written.specs.Pieces.{batch_bytes}
use mathlib.Core.Path.{◌∙◌, sym, ap}
use Prim.Native.Nat.{◌+◌}
use Rattle.batched.proofs.Batches.put_batch.Goals as goal

pub collection-requires : goal.collection-requires
collection-requires c =
    let b = c.args.self.now in
    first_under b.list.now b.table.now b.labels.now b.count c.args.batch b.ready c.requires.batch_in_bounds c.first_of.result c.first_of.ensures

pub returns-clause-wrote : goal.returns-clause-wrote
unfolding batch_bytes
returns-clause-wrote c =
    let b = c.args.self.now in
    let xs = pick c.args.batch b.labels.now (listed b.list.now) in
    wrote_then _ _
    (head_join (creditor_at b.list.now) (c.args.batch + 1) xs _ _ _
    (c.sums-sums.ensures.transactions ∙ sym (pick-count c.args.batch no_collection b.labels.now (listed b.list.now) b.ready.ready.count))
    c.sums-sums.ensures.cents
    (ap (λ (x : Collection). x.terms) c.collection.ensures
    ∙ first-terms b.list.now b.table.now b.labels.now b.count c.args.batch b.ready c.requires.batch_in_bounds c.first_of.result c.first_of.ensures)
    (wrote_then _ _ c.put_totals.ensures.wrote (wrote_then _ _ c.put_terms.ensures.wrote (rw c.creditor.ensures at c.put_creditor.ensures.wrote))))
    (wrote_then _ _ c.put_transactions.ensures.wrote c.put.ensures)
