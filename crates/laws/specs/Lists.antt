-- LISTS: sums over them, and what is counted, kept and put together. To be believed; definitions only.
--   one b         1 where b holds, else 0
--   put_if b x xs  x in front of xs where b holds, else xs
--   total f xs    the sum of f x over the x of xs
--   count p xs    how many of xs pass the test p
--   keep p xs     those of xs that pass the test p, in order
--   All P xs      P holds of each of xs
--   concat bs     the lists of bs, one after the other
--   gather f xs   what f makes of each of xs, one after the other
--   number n xs   each of xs with its number, from n on
--   FirstNot P xs x   x is the first of xs of which P does not hold
use Rattle.std.specs.Prelude.{ℕ, suc, ◌+◌, Bool, true, false, List, [], ◌∷◌, ◌++◌, ◌≡◌}

abbrev pub one : Bool → ℕ
one true = 1
one false = 0

module _ {A : Type 0} where
  abbrev pub put_if : Bool → A → List A → List A
  put_if true x xs = x ∷ xs
  put_if false x xs = xs

  abbrev pub total : (A → ℕ) → List A → ℕ
  total f [] = 0
  total f (x ∷ xs) = f x + total f xs

  abbrev pub count : (A → Bool) → List A → ℕ
  count p xs = total (λ x. one (p x)) xs

  abbrev pub keep : (A → Bool) → List A → List A
  keep p [] = []
  keep p (x ∷ xs) = put_if (p x) x (keep p xs)

  abbrev pub All : (A → Type 0) → List A → Type 0
  All P [] = Unit {0}
  All P (x ∷ xs) = P x × All P xs

  abbrev pub concat : List (List A) → List A
  concat [] = []
  concat (b ∷ bs) = b ++ concat bs

  abbrev pub gather : {B : Type 0} → (A → List B) → List A → List B
  gather f [] = []
  gather f (x ∷ xs) = f x ++ gather f xs

  abbrev pub number : ℕ → List A → List (ℕ × A)
  number n [] = []
  number n (x ∷ xs) = (n, x) ∷ number (suc n) xs

  pub record FirstNot (P : A → Type 0) (xs : List A) (x : A) : Type 0 where
    pub before : List A
    pub after : List A
    pub whole : xs ≡ before ++ x ∷ after
    pub held : All P before
    pub fails : P x → ⊥
