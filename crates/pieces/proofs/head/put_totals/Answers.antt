use Rattle.put.proofs.Writes.{wrote_then}
use Rattle.pieces.proofs.head.put_totals.Goals as goal

pub returns-clause-wrote : goal.returns-clause-wrote
returns-clause-wrote c = wrote_then _ _ c.put_id.ensures (wrote_then _ _ c.put.ensures (wrote_then _ _ c.put_sums.ensures.wrote c.put-2.ensures))
