-- THE SAME COLLECTIONS COUNT AND SUM ALIKE. A sum is made of layers, each of which is a count: how many are above 0, above 1, and so on.
--   same_length        lists of the same collections are as long
--   same_total         and have the same sum, whatever is summed
use Prim.Native.Nat.{ℕ, zero, suc, ◌+◌, ◌≤◌}
use native.Mathlib.Decide.{dec_le}
use native.Mathlib.Omega.{arith}
use mathlib.Core.Bool.{true}
use mathlib.Core.List.{List, [], ◌∷◌}
use mathlib.Core.Path.{◌≡◌, refl, ap₂, sym, ◌∙◌}
use lib.Dec.{ltb}
use lib.ListN.{length}
use borrow.Author.Tests.{lt-ltb, le-ltb}
use Rattle.laws.specs.Lists.{one, total, count}
use Rattle.laws.proofs.Counts.{total_plus, total-zero}
use Rattle.bundle.specs.Bundle.{Same}

-- ─── layers ───

-- how many of the first m layers are below n
layers : ℕ → ℕ → ℕ
layers zero n = 0
layers (suc m) n = layers m n + one (ltb m n)

record Reach (m n : ℕ) : Type 0 where
  all : n ≤ m → layers m n ≡ n
  part : m ≤ n → layers m n ≡ m

reach : (m n : ℕ) → Reach m n
unfolding layers
reach zero n = record { all = λ h. omega arith; part = λ h. refl }
reach (suc m) n = go (dec_le n m) (reach m n)
  where
    go : Dec (n ≤ m) → Reach m n → Reach (suc m) n
    go (yes h) r = record { all = λ k. rw (le-ltb m n h) (omega (arith, r.all h)); part = λ k. absurd (omega arith) }
    go (no h) r =
        let l : m ≤ n = omega arith in
        let b : ltb m n ≡ true = lt-ltb m n (omega arith) in record { all = λ k. rw b (omega (arith, r.part l)); part = λ k. rw b (omega (arith, r.part l)) }

-- ─── sums ───

module _ {A : Type 0} where
  count-all : (xs : List A) → count (λ x. true) xs ≡ length xs
  count-all [] = refl
  count-all (x ∷ xs) = omega (arith, count-all xs)

  pub same_length : (xs ys : List A) → Same xs ys → length xs ≡ length ys
  same_length xs ys h = sym (count-all xs) ∙ h (λ x. true) ∙ count-all ys

  module _ (f : A → ℕ) where
    same-layers : (m : ℕ) (xs ys : List A) → Same xs ys → total (λ x. layers m (f x)) xs ≡ total (λ x. layers m (f x)) ys
    unfolding layers
    same-layers zero xs ys h = total-zero xs ∙ sym (total-zero ys)
    same-layers (suc m) xs ys h =
        total_plus (λ x. layers m (f x)) (λ x. one (ltb m (f x))) xs
        ∙ ap₂ (λ (a b : ℕ). a + b) (same-layers m xs ys h) (h (λ x. ltb m (f x)))
        ∙ sym (total_plus (λ x. layers m (f x)) (λ x. one (ltb m (f x))) ys)

    -- so many layers that none is left
    enough : (m : ℕ) (xs : List A) → total f xs ≤ m → total (λ x. layers m (f x)) xs ≡ total f xs
    enough m [] h = refl
    enough m (x ∷ xs) h = ap₂ (λ (a b : ℕ). a + b) ((reach m (f x)).all (omega arith)) (enough m xs (omega arith))

    pub same_total : (xs ys : List A) → Same xs ys → total f xs ≡ total f ys
    same_total xs ys h =
        let m : ℕ = total f xs + total f ys in
        sym (enough m xs (omega arith)) ∙ same-layers m xs ys h ∙ enough m ys (omega arith)
