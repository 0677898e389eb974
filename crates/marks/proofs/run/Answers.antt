use Rattle.std.proofs.Common.{rules, ◌≡◌, true, false, refl, sym, ◌∙◌, add-one}
use Rattle.std.proofs.lemmas.Iterator.{YieldsList-from_slice, IsFirst-from_position, index_from_first}
use borrow.Author.Tests.{tests}
use Rattle.laws.specs.Bytes.{span}
use Rattle.marks.proofs.run.Goals as goal

-- the place of the first byte that is not of the class p
pub returns : goal.returns
returns g c p h =
    c.unwrap_or.ensures
    ∙ sym (index_from_first (span p) (λ x. p x ≡ false) (λ x. p x ≡ true) refl (λ x s e. rw (e, span)) (λ x s e. rw (e, span) (sym (add-one (span p s)))) _ _
    (IsFirst-from_position _ _ _ (λ x. p x ≡ false) (λ x. p x ≡ true) c.position.ensures.ran (YieldsList-from_slice c.args.text.now cc) (λ x q k. search (rules, tests))
    (λ x q k. search (rules, tests))))
