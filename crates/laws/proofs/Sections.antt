-- THE LAWS OF `is`, `before`, `parts`, `all_of`, `last_or` AND `the`.
--   map-before, map-parts, map-all, map-the   what is found among elements that are made of others
--   length-all                                there are as many elements of a part as its parts
--   all-before, all-parts                     what holds of each element holds of each of a section
--   the-none                                  where no element is of a part, there is none
use Prim.Native.Nat.{ℕ, suc}
use mathlib.Core.Bool.{Bool, true, false}
use mathlib.Core.List.{List, [], ◌∷◌, map}
use mathlib.Core.Option.{Option, none, some}
use mathlib.Core.Path.{◌≡◌, refl, ap, ap₂, ◌∙◌}
use lib.ListN.{length}
use Rattle.laws.specs.Lists.{All}
use Rattle.laws.specs.Sections.{is, before, parts, all_of, last_or, the}

-- h makes an element of another, and keeps its part
module _ {A B : Type 0} (h : A → B) (part : B → ℕ) (n : ℕ) where
  abbrev of : A → ℕ
  of x = part (h x)

  pub map-before : (xs : List A) → map h (before of n xs) ≡ before part n (map h xs)
  map-before [] = refl
  map-before (x ∷ xs) = go (is of n x) (map-before xs)
    where
      go : (z : Bool) → map h (before of n xs) ≡ before part n (map h xs)
          → map h (elim z [ true ↦ [] | false ↦ x ∷ before of n xs ]) ≡ elim z [ true ↦ [] | false ↦ h x ∷ before part n (map h xs) ]
      go true e = refl
      go false e = ap {B = List B} (λ (l : List B). h x ∷ l) e

  pub map-parts : (xs : List A) → map (map h) (parts of n xs) ≡ parts part n (map h xs)
  map-parts [] = refl
  map-parts (x ∷ xs) = go (is of n x) (map-before xs) (map-parts xs)
    where
      go : (z : Bool) → map h (before of n xs) ≡ before part n (map h xs) → map (map h) (parts of n xs) ≡ parts part n (map h xs)
          → map (map h) (elim z [ true ↦ (x ∷ before of n xs) ∷ parts of n xs | false ↦ parts of n xs ])
          ≡ elim z [ true ↦ (h x ∷ before part n (map h xs)) ∷ parts part n (map h xs) | false ↦ parts part n (map h xs) ]
      go true b e = ap₂ {C = List (List B)} (λ (l : List B) (r : List (List B)). (h x ∷ l) ∷ r) b e
      go false b e = e

  pub map-all : (xs : List A) → map h (all_of of n xs) ≡ all_of part n (map h xs)
  map-all [] = refl
  map-all (x ∷ xs) = go (is of n x) (map-all xs)
    where
      go : (z : Bool) → map h (all_of of n xs) ≡ all_of part n (map h xs)
          → map h (elim z [ true ↦ x ∷ all_of of n xs | false ↦ all_of of n xs ]) ≡ elim z [ true ↦ h x ∷ all_of part n (map h xs) | false ↦ all_of part n (map h xs) ]
      go true e = ap {B = List B} (λ (l : List B). h x ∷ l) e
      go false e = e

abbrev pub map_if : {A B : Type 0} → (A → B) → Option A → Option B
map_if h none = none
map_if h (some x) = some (h x)

module _ {A B : Type 0} (h : A → B) where
  map_last : (o : Option A) (xs : List A) → map_if h (last_or o xs) ≡ last_or (map_if h o) (map h xs)
  map_last o [] = refl
  map_last o (x ∷ xs) = map_last (some x) xs

  pub map-the : (part : B → ℕ) (n : ℕ) (xs : List A) → map_if h (the (λ x. part (h x)) n xs) ≡ the part n (map h xs)
  map-the part n xs = map_last none (all_of (λ x. part (h x)) n xs) ∙ ap (last_or none) (map-all h part n xs)

module _ {A : Type 0} (part : A → ℕ) (n : ℕ) where
  pub length-all : (xs : List A) → length (all_of part n xs) ≡ length (parts part n xs)
  length-all [] = refl
  length-all (x ∷ xs) = go (is part n x) (length-all xs)
    where
      go : (z : Bool) → length (all_of part n xs) ≡ length (parts part n xs)
          → length {A = A} (elim z [ true ↦ x ∷ all_of part n xs | false ↦ all_of part n xs ])
          ≡ length {A = List A} (elim z [ true ↦ (x ∷ before part n xs) ∷ parts part n xs | false ↦ parts part n xs ])
      go true e = ap suc e
      go false e = e

module _ {A : Type 0} (part : A → ℕ) (n : ℕ) where
  module _ (P : A → Type 0) where
    pub all-before : (xs : List A) → All P xs → All P (before part n xs)
    all-before [] h = tt
    all-before (x ∷ xs) h = go (is part n x) (all-before xs h.1)
      where
        go : (z : Bool) → All P (before part n xs) → All P (elim z [ true ↦ [] | false ↦ x ∷ before part n xs ])
        go true b = tt
        go false b = (h.0, b)

    pub all-parts : (xs : List A) → All P xs → All (All P) (parts part n xs)
    all-parts [] h = tt
    all-parts (x ∷ xs) h = go (is part n x) (all-parts xs h.1)
      where
        go : (z : Bool) → All (All P) (parts part n xs) → All (All P) (elim z [ true ↦ (x ∷ before part n xs) ∷ parts part n xs | false ↦ parts part n xs ])
        go true e = ((h.0, all-before xs h.1), e)
        go false e = e

  all_none : (xs : List A) → All (λ x. is part n x ≡ false) xs → all_of part n xs ≡ []
  all_none [] h = refl
  all_none (x ∷ xs) h = ap (λ (z : Bool). elim z [ true ↦ x ∷ all_of part n xs | false ↦ all_of part n xs ]) h.0 ∙ all_none xs h.1

  pub the-none : (xs : List A) → All (λ x. is part n x ≡ false) xs → the part n xs ≡ none
  the-none xs h = ap (last_or none) (all_none xs h)
