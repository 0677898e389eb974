-- FINDING ELEMENTS BY THEIR PART, in a list of anything that has one. To be believed; definitions only.
--   is n x         x plays the part n
--   before n xs    the elements before the first of the part n
--   parts n xs     each element of the part n with the elements up to the next of that part
--   all_of n xs     the elements of the part n
--   last_or d xs    the last element; d where there is none
--   the n xs       the one element of the part n, or none
use Rattle.std.specs.Prelude.{ℕ, Bool, true, false, List, [], ◌∷◌, eqb}
use Rattle.std.proofs.Math.Option.{Option, none, some}

abbrev pub last_or : {A : Type 0} → Option A → List A → Option A
last_or d [] = d
last_or d (x ∷ xs) = last_or (some x) xs

-- the part that an element plays
module _ {A : Type 0} (part : A → ℕ) where
  abbrev pub is : ℕ → A → Bool
  is n x = eqb (part x) n

  abbrev pub before : ℕ → List A → List A
  before n [] = []
  before n (x ∷ xs) = elim (is n x) [ true ↦ [] | false ↦ x ∷ before n xs ]

  abbrev pub parts : ℕ → List A → List (List A)
  parts n [] = []
  parts n (x ∷ xs) = elim (is n x) [ true ↦ (x ∷ before n xs) ∷ parts n xs | false ↦ parts n xs ]

  abbrev pub all_of : ℕ → List A → List A
  all_of n [] = []
  all_of n (x ∷ xs) = elim (is n x) [ true ↦ x ∷ all_of n xs | false ↦ all_of n xs ]

  -- where there are several, the last one
  abbrev pub the : ℕ → List A → Option A
  the n xs = last_or none (all_of n xs)
