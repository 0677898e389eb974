use Rattle.write.proofs.Rounds.{concat-count, concat-cents, message_join}
use Rattle.put.proofs.Writes.{wrote_then}
use Rattle.batched.specs.Ready.{creditor_at, batches_from}
use Rattle.collections.specs.Listed.{listed}
use mathlib.Core.Path.{◌∙◌}
use Rattle.write.proofs.message.put_message.Goals as goal

pub returns : goal.returns
returns c =
    let b = c.args.batches.now in
    let xs = listed b.list.now in
    message_join (creditor_at b.list.now) (batches_from 0 b.count b.labels.now xs) _ _
    (c.sums.ensures.transactions ∙ concat-count b.labels.now xs b.count b.ready.ready.count) (c.sums.ensures.cents ∙ concat-cents b.labels.now xs b.count)
    (wrote_then _ _ (rw c.creditor.ensures at c.put_opening.ensures.wrote) (wrote_then _ _ c.put_batches.ensures.wrote c.put.ensures))
