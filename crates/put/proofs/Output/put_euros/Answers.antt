use Rattle.put.proofs.Writes.{wrote_then}
use Rattle.put.proofs.Output.put_euros.Goals as goal

pub returns-clause-wrote : goal.returns-clause-wrote
returns-clause-wrote c = wrote_then _ _ c.put_decimal.ensures.wrote (rw (c.last_digit.ensures, c.last_digit-2.ensures) at c.put.ensures)
