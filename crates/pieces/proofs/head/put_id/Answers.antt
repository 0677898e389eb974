use Rattle.put.proofs.Writes.{wrote_then}
use Rattle.pieces.proofs.head.put_id.Goals as goal

pub returns : goal.returns
returns c = wrote_then _ _ c.put.ensures c.put_batch_id.ensures
