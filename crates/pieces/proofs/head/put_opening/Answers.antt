use Rattle.put.proofs.Writes.{wrote_then}
use Rattle.written.specs.Pieces.{opening_bytes}
use Rattle.pieces.proofs.head.put_opening.Goals as goal

pub returns-clause-wrote : goal.returns-clause-wrote
unfolding opening_bytes
returns-clause-wrote c =
    wrote_then _ _ c.put_ids.ensures.wrote (wrote_then _ _ c.put.ensures (wrote_then _ _ c.put_sums.ensures.wrote
    (wrote_then _ _ c.put-2.ensures (wrote_then _ _ c.put_text.ensures.wrote c.put-3.ensures))))
