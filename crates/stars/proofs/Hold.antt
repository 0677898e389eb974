-- ALL ★ CASES HOLD, by one computed test over the list. What the reader computes of a message is a fact about the form and the place.
--   stars   the claim
use mathlib.Core.Bool.{Bool, not}
use mathlib.Core.List.{◌++◌}
use lib.Dec.{T}
use Rattle.laws.specs.Bytes.{ascii}
use Rattle.laws.proofs.Below.{of-each}
use Rattle.text.specs.Rules.{good}
use Rattle.tree.specs.Reader.{read}
use Rattle.tree.specs.Pain008.{document, declaration}
use Rattle.tree.proofs.Pain008.{stuck_at, not_of_form}
use Rattle.stars.specs.Stars.{Case, Case.two, Case.obeys, Case.breaks, Case.test, Claim, cases, asked, Stars}

passes : Case → Bool
passes (two s n) = stuck_at n (read declaration document (ascii s))
passes (obeys r s) = good (r (ascii s))
passes (breaks r s) = not (good (r (ascii s)))
passes (test b) = b

holds : (c : Case) → T (passes c) → Claim c
unfolding passes
holds (two s n) t = not_of_form (ascii s) n t
holds (obeys r s) t = t
holds (breaks r s) t = t
holds (test b) t = t

pub stars : Stars
unfolding passes
stars = of-each (λ c. passes c.1) (λ c. Claim c.1) (λ c t. holds c.1 t) (cases ++ asked) tt
