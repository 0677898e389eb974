use Rattle.put.proofs.Writes.{wrote_then}
use Rattle.written.specs.Pieces.{transaction_bytes}
use Rattle.pieces.proofs.transaction.put_transaction.Goals as goal

pub returns-clause-wrote : goal.returns-clause-wrote
unfolding transaction_bytes
returns-clause-wrote c = wrote_then _ _ c.put_payment.ensures.wrote c.put_debtor.ensures.wrote
