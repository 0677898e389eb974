-- THE BATCHES of a list, how many are needed, and what it is to carry the collections of a list. To be believed; definitions only.
-- X are the collections, of any type, and K their terms: `terms` gives a collection's terms, and `eq` compares two.
--   Decides eq             the test `eq` decides equality
--   firsts eq ks           each of ks once, in order of first appearance
--   pieces c xs            xs, cut after every c
--   ceil n c               n divided by c, rounded up
--   bundle terms eq c xs   THE BATCHES at the ceiling c: each terms is taken in order of first appearance in the list;
--                          its collections, in list order, are cut after every ceiling's worth
--   need terms eq c xs     THEIR NUMBER: the sum over terms of its collections divided by the ceiling, rounded up
--   Same xs ys             the same collections, repeats counted
--   Fits terms c b         a batch within the ceiling and of its own terms
--   Carries terms c xs bs  such batches that together hold the collections xs
use Rattle.std.specs.Prelude.{ℕ, zero, suc, ◌+◌, ◌-◌, ◌/◌, ◌≤◌, Bool, not, List, [], ◌∷◌, map, ◌≡◌, T, length, take, drop}
use Rattle.laws.specs.Lists.{total, count, keep, All, concat, gather}

pub record Decides {K : Type 0} (eq : K → K → Bool) : Type 0 where
  pub right : (a b : K) → T (eq a b) → a ≡ b
  pub self : (a : K) → T (eq a a)

-- ─── the batches ───

module _ {A : Type 0} where
  -- the first, and those of the rest without it
  abbrev pub firsts : (A → A → Bool) → List A → List A
  firsts eq [] = []
  firsts eq (k ∷ ks) = k ∷ keep (λ j. not (eq k j)) (firsts eq ks)

  -- the first n pieces
  abbrev pub cut : ℕ → ℕ → List A → List (List A)
  cut zero c xs = []
  cut (suc n) c [] = []
  cut (suc n) c (x ∷ xs) = take c (x ∷ xs) ∷ cut n c (drop c (x ∷ xs))

  -- there are at most as many pieces as elements
  abbrev pub pieces : ℕ → List A → List (List A)
  pieces c xs = cut (length xs) c xs

unfoldable pub ceil : ℕ → ℕ → ℕ
ceil n c = (n + (c - 1)) / c

module _ {X K : Type 0} (terms : X → K) (eq : K → K → Bool) where
  -- each terms once, in order of first appearance
  abbrev pub all_terms : List X → List K
  all_terms xs = firsts eq (map terms xs)

  -- the collections of the terms k, in list order
  abbrev pub having : K → List X → List X
  having k xs = keep (λ x. eq k (terms x)) xs

  abbrev pub bundle : ℕ → List X → List (List X)
  bundle c xs = gather (λ k. pieces c (having k xs)) (all_terms xs)

  abbrev pub need : ℕ → List X → ℕ
  need c xs = total (λ k. ceil (count (λ x. eq k (terms x)) xs) c) (all_terms xs)

-- ─── carrying the collections of a list ───

-- whatever is asked of a collection, it holds as often in one list as in the other
abbrev pub Same : {A : Type 0} → List A → List A → Type 0
Same {A} xs ys = (p : A → Bool) → count p xs ≡ count p ys

pub record Fits {X K : Type 0} (terms : X → K) (c : ℕ) (b : List X) : Type 0 where
  pub size : length b ≤ c
  pub own : K
  pub alike : All (λ x. terms x ≡ own) b

pub record Carries {X K : Type 0} (terms : X → K) (c : ℕ) (xs : List X) (bs : List (List X)) : Type 0 where
  pub fit : All (Fits terms c) bs
  pub same : Same (concat bs) xs
