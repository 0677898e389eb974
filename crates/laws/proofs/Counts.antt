-- THE LAWS OF `total`, `count`, `keep`, `All`, `FirstNot`, `concat` AND `gather`.
--   total-append, total_plus, total_le, total_ext, total-zero    sums
--   count-append, count_map, count_ext, count_none               counts; count_le_length: at most the length
--   count-keep, length-keep, All-keep                            what is kept: how many pass a test, how many there are, each passed
--   keep_ext, keep-true, keep-keep, map-keep                     by an equal test, by no test, by two tests, of a mapped list; map_id: mapped to itself
--   All-append, All-map, All-take, All-drop, All-put_if           what holds of each; All-kept: also of each that is kept
--   here-not, later-not                                          the first of which it does not hold: it stands in front, or after one of which it does
--   concat-append                                                lists of lists, one after the other
--   length-gather, All-gather, count_concat_gather               what is gathered
use Prim.Native.Nat.{ℕ, zero, suc, ◌+◌, ◌≤◌}
use native.Mathlib.Nat.{zero-add}
use native.Mathlib.Omega.{arith}
use mathlib.Core.Bool.{Bool, true, false, not, ◌&&◌}
use mathlib.Core.List.{List, [], ◌∷◌, ◌++◌, map, append_assoc}
use mathlib.Core.Path.{◌≡◌, refl, ap, ap₂, sym, ◌∙◌}
use lib.Dec.{T}
use lib.ListN.{length, take, drop, length-append}
use Rattle.laws.specs.Lists.{one, put_if, total, count, keep, All, concat, gather, FirstNot}
use Rattle.laws.proofs.Tests.{T_false}

-- ─── sums ───

module _ {A : Type 0} where
  pub total-append : (f : A → ℕ) (xs ys : List A) → total f (xs ++ ys) ≡ total f xs + total f ys
  total-append f [] ys = sym (zero-add _)
  total-append f (x ∷ xs) ys = omega (arith, total-append f xs ys)

  pub total_plus : (f g : A → ℕ) (xs : List A) → total (λ x. f x + g x) xs ≡ total f xs + total g xs
  total_plus f g [] = refl
  total_plus f g (x ∷ xs) = omega (arith, total_plus f g xs)

  pub total_le : (f g : A → ℕ) (xs : List A) → ((x : A) → f x ≤ g x) → total f xs ≤ total g xs
  total_le f g [] h = omega arith
  total_le f g (x ∷ xs) h = omega (arith, h x, total_le f g xs h)

  pub total_ext : (f g : A → ℕ) (xs : List A) → ((x : A) → f x ≡ g x) → total f xs ≡ total g xs
  total_ext f g [] h = refl
  total_ext f g (x ∷ xs) h = omega (arith, h x, total_ext f g xs h)

  pub total-zero : (xs : List A) → total (λ x. 0) xs ≡ 0
  total-zero [] = refl
  total-zero (x ∷ xs) = omega (arith, total-zero xs)

-- ─── counts ───

one_le : (z : Bool) → one z ≤ 1
one_le true = omega arith
one_le false = omega arith

module _ {A : Type 0} where
  pub count-append : (p : A → Bool) (xs ys : List A) → count p (xs ++ ys) ≡ count p xs + count p ys
  count-append p = total-append (λ x. one (p x))

  pub count_ext : (p q : A → Bool) (xs : List A) → ((x : A) → p x ≡ q x) → count p xs ≡ count q xs
  count_ext p q xs h = total_ext (λ x. one (p x)) (λ x. one (q x)) xs (λ x. ap one (h x))

  pub count_le_length : (p : A → Bool) (xs : List A) → count p xs ≤ length xs
  count_le_length p [] = omega arith
  count_le_length p (x ∷ xs) = omega (arith, one_le (p x), count_le_length p xs)

  pub count_none : (p : A → Bool) (xs : List A) → All (λ x. T (not (p x))) xs → count p xs ≡ 0
  count_none p [] h = refl
  count_none p (x ∷ xs) h = omega (arith, ap one (T_false (p x) h.0), count_none p xs h.1)

pub count_map : {A B : Type 0} (f : A → B) (p : B → Bool) (xs : List A) → count p (map f xs) ≡ count (λ x. p (f x)) xs
count_map f p [] = refl
count_map f p (x ∷ xs) = omega (arith, count_map f p xs)

-- ─── what is kept ───

module _ {A : Type 0} where
  count-put_if : (p : A → Bool) (z : Bool) (x : A) (xs : List A) → count p (put_if z x xs) ≡ one (z && p x) + count p xs
  count-put_if p true x xs = refl
  count-put_if p false x xs = sym (zero-add _)

  pub count-keep : (p q : A → Bool) (xs : List A) → count p (keep q xs) ≡ count (λ x. q x && p x) xs
  count-keep p q [] = refl
  count-keep p q (x ∷ xs) = omega (arith, count-put_if p (q x) x (keep q xs), count-keep p q xs)

  length-put_if : (z : Bool) (x : A) (xs : List A) → length (put_if z x xs) ≡ one z + length xs
  length-put_if true x xs = omega arith
  length-put_if false x xs = omega arith

  pub length-keep : (q : A → Bool) (xs : List A) → length (keep q xs) ≡ count q xs
  length-keep q [] = refl
  length-keep q (x ∷ xs) = omega (arith, length-put_if (q x) x (keep q xs), length-keep q xs)

  pub All-keep : (q : A → Bool) (xs : List A) → All (λ x. T (q x)) (keep q xs)
  All-keep q [] = tt
  All-keep q (x ∷ xs) = go (q x) (λ t. t) (All-keep q xs)
    where
      go : (z : Bool) → (T z → T (q x)) → All (λ x. T (q x)) (keep q xs) → All (λ x. T (q x)) (put_if z x (keep q xs))
      go true f h = (f tt, h)
      go false f h = h

  pub keep_ext : (p q : A → Bool) (xs : List A) → ((x : A) → p x ≡ q x) → keep p xs ≡ keep q xs
  keep_ext p q [] h = refl
  keep_ext p q (x ∷ xs) h = ap₂ {C = List A} (λ (z : Bool) (l : List A). put_if z x l) (h x) (keep_ext p q xs h)

  pub keep-true : (xs : List A) → keep (λ x. true) xs ≡ xs
  keep-true [] = refl
  keep-true (x ∷ xs) = ap {B = List A} (λ (l : List A). x ∷ l) (keep-true xs)

  pub keep-keep : (p q : A → Bool) (xs : List A) → keep p (keep q xs) ≡ keep (λ x. q x && p x) xs
  keep-keep p q [] = refl
  keep-keep p q (x ∷ xs) = go (q x) ∙ ap {B = List A} (λ (l : List A). put_if (q x && p x) x l) (keep-keep p q xs)
    where
      go : (z : Bool) → keep p (put_if z x (keep q xs)) ≡ put_if (z && p x) x (keep p (keep q xs))
      go true = refl
      go false = refl

pub map_id : {A : Type 0} (xs : List A) → map (λ x. x) xs ≡ xs
map_id [] = refl
map_id {A} (x ∷ xs) = ap {B = List A} (λ (l : List A). x ∷ l) (map_id xs)

module _ {A B : Type 0} (f : A → B) where
  map-put_if : (z : Bool) (x : A) (xs : List A) → map f (put_if z x xs) ≡ put_if z (f x) (map f xs)
  map-put_if true x xs = refl
  map-put_if false x xs = refl

  pub map-keep : (p : B → Bool) (xs : List A) → map f (keep (λ x. p (f x)) xs) ≡ keep p (map f xs)
  map-keep p [] = refl
  map-keep p (x ∷ xs) = map-put_if (p (f x)) x (keep (λ x. p (f x)) xs) ∙ ap (put_if (p (f x)) (f x)) (map-keep p xs)

-- ─── what holds of each ───

module _ {A : Type 0} (P : A → Type 0) where
  pub All-append : (xs ys : List A) → All P xs → All P ys → All P (xs ++ ys)
  All-append [] ys h k = k
  All-append (x ∷ xs) ys h k = (h.0, All-append xs ys h.1 k)

  pub All-take : (n : ℕ) (xs : List A) → All P xs → All P (take n xs)
  All-take zero xs h = tt
  All-take (suc n) [] h = tt
  All-take (suc n) (x ∷ xs) h = (h.0, All-take n xs h.1)

  pub All-drop : (n : ℕ) (xs : List A) → All P xs → All P (drop n xs)
  All-drop zero xs h = h
  All-drop (suc n) [] h = tt
  All-drop (suc n) (x ∷ xs) h = All-drop n xs h.1

  pub All-put_if : (z : Bool) (x : A) (xs : List A) → P x → All P xs → All P (put_if z x xs)
  All-put_if true x xs a h = (a, h)
  All-put_if false x xs a h = h

  pub All-kept : (q : A → Bool) (xs : List A) → All P xs → All P (keep q xs)
  All-kept q [] h = tt
  All-kept q (x ∷ xs) h = All-put_if (q x) x (keep q xs) h.0 (All-kept q xs h.1)

  pub here-not : (x : A) (xs : List A) → (P x → ⊥) → FirstNot P (x ∷ xs) x
  here-not x xs f = record { before = []; after = xs; whole = refl; held = tt; fails = f }

  pub later-not : (x y : A) (xs : List A) → P x → FirstNot P xs y → FirstNot P (x ∷ xs) y
  later-not x y xs h n = record { before = x ∷ n.before; after = n.after; whole = ap (λ (l : List A). x ∷ l) n.whole; held = (h, n.held); fails = n.fails }

  pub All-map : (Q : A → Type 0) (xs : List A) → ((x : A) → P x → Q x) → All P xs → All Q xs
  All-map Q [] f h = tt
  All-map Q (x ∷ xs) f h = (f x h.0, All-map Q xs f h.1)

-- ─── one after the other ───

module _ {A : Type 0} where
  pub concat-append : (bs cs : List (List A)) → concat (bs ++ cs) ≡ concat bs ++ concat cs
  concat-append [] cs = refl
  concat-append (b ∷ bs) cs = ap {B = List A} (λ (l : List A). b ++ l) (concat-append bs cs) ∙ sym (append_assoc b (concat bs) (concat cs))

module _ {A B : Type 0} where
  pub length-gather : (f : A → List B) (xs : List A) → length (gather f xs) ≡ total (λ x. length (f x)) xs
  length-gather f [] = refl
  length-gather f (x ∷ xs) = omega (arith, length-append (f x) (gather f xs), length-gather f xs)

  pub All-gather : (P : B → Type 0) (f : A → List B) (xs : List A) → ((x : A) → All P (f x)) → All P (gather f xs)
  All-gather P f [] h = tt
  All-gather P f (x ∷ xs) h = All-append P (f x) (gather f xs) (h x) (All-gather P f xs h)

  pub count_concat_gather : (p : B → Bool) (f : A → List (List B)) (xs : List A) → count p (concat (gather f xs)) ≡ total (λ x. count p (concat (f x))) xs
  count_concat_gather p f [] = refl
  count_concat_gather p f (x ∷ xs) =
      omega (arith, ap (count p) (concat-append (f x) (gather f xs)), count-append p (concat (f x)) (concat (gather f xs)), count_concat_gather p f xs)
