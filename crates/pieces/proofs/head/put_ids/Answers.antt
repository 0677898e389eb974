use Rattle.put.proofs.Writes.{wrote_then}
use Rattle.pieces.proofs.head.put_ids.Goals as goal

pub returns-clause-wrote : goal.returns-clause-wrote
returns-clause-wrote c = wrote_then _ _ c.put.ensures (wrote_then _ _ c.put-2.ensures (wrote_then _ _ c.put_text.ensures.wrote (wrote_then _ _ c.put-3.ensures c.put_text-2.ensures.wrote)))
