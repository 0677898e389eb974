use Rattle.std.proofs.lemmas.Iterator.{YieldsList-from_slice, IsFirst-from_position, index_from_first}
use Rattle.laws.specs.Bytes.{span}
use lib.Dec.{eqb}
use borrow.Author.Tests.{eq-eqb, ne_eqb}
use mathlib.Core.Bool.{not}
use mathlib.Core.List.{List, ◌∷◌}
use mathlib.Core.Path.{◌≡◌, refl, sym, ◌∙◌}
use Prim.Native.Nat.{ℕ, ◌+◌}
use native.Mathlib.Numerals.{add-one}
use borrow.Author.Rules.{rules}
use Rattle.batched.proofs.Batches.first_of.Goals as goal

span-hit : (k x : ℕ) (xs : List ℕ) → k ≡ x → span (λ l. not (eqb k l)) (x ∷ xs) ≡ 0
span-hit k x xs e = rw (eq-eqb k x e, span)

span-miss : (k x : ℕ) (xs : List ℕ) → (k ≡ x → ⊥) → span (λ l. not (eqb k l)) (x ∷ xs) ≡ span (λ l. not (eqb k l)) xs + 1
span-miss k x xs e = rw (ne_eqb k x e, span) (sym (add-one _))

pub returns : goal.returns
returns c =
    let k = c.args.batch in
    let ls = c.args.self.now.labels.now in
    let first = IsFirst-from_position _ _ c.position.result (λ (x : ℕ). k ≡ x) (λ (x : ℕ). k ≡ x → ⊥) c.position.ensures.ran (YieldsList-from_slice ls (search rules)) (λ x q e. search rules) (λ x q e. (search rules, search rules)) in
    sym (index_from_first (span (λ l. not (eqb k l))) (λ (x : ℕ). k ≡ x) (λ (x : ℕ). k ≡ x → ⊥) refl (span-hit k) (span-miss k) ls c.position.result first ∙ sym c.unwrap_or.ensures)
