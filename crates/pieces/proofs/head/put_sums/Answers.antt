use Rattle.put.proofs.Writes.{wrote_then}
use Rattle.pieces.proofs.head.put_sums.Goals as goal

pub returns-clause-wrote : goal.returns-clause-wrote
returns-clause-wrote c = wrote_then _ _ c.put_count.ensures.wrote (wrote_then _ _ c.put.ensures c.put_euros.ensures.wrote)
