use lib.ListN.{take-append-drop}
use Rattle.marks.specs.Marks.{letter_or_digit}
use Rattle.text.proofs.shape.iban.Goals as goal

pub checked-requires-clause-class : goal.checked-requires-clause-class
checked-requires-clause-class c = (letter_or_digit, (λ k b h e. e), (λ k e. e))

pub returns : goal.returns
returns c = rw take-append-drop at (c.checked.ensures letter_or_digit (λ k b h e. e))
