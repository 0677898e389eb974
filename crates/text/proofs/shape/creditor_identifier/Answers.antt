use Rattle.marks.specs.Marks.{capital_or_digit}
use Rattle.text.proofs.shape.creditor_identifier.Goals as goal

pub checked-requires-clause-class : goal.checked-requires-clause-class
checked-requires-clause-class c = (capital_or_digit, (λ k b h e. e), (λ k e. rw e))
