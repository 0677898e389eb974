-- NUMBERS SERVE FOR TERMS: the batches depend on which collections are alike, and on nothing else, so they are the same by numbers as by terms.
-- Such numbers are equal for two collections exactly where their terms are; codes are.
--   need_by_number      how many batches are needed, from the numbers
--   batch_by_number     batch n is the collections whose label, made from the numbers, is n
--   batches_by_number   so all batches are, in order
--   label_used          each label below the number needed is some collection's
--   all-at              what holds of each of a list, at a place
--   need_by_code, batch_by_code   the same from the codes
use Prim.Native.Nat.{ℕ, zero, suc, ◌+◌, ◌≤◌, ◌<◌}
use native.Mathlib.Nat.{le_refl, not-suc-le-zero, le_of_suc-le-suc}
use native.Mathlib.Omega.{arith}
use mathlib.Core.Bool.{Bool, true, false, not}
use mathlib.Core.List.{List, [], ◌∷◌, ◌++◌, map}
use mathlib.Core.Path.{◌≡◌, refl, ap, ap₂, sym, subst, ◌∙◌}
use lib.Dec.{T, eqb, eqb→eq}
use lib.ListN.{length, get_or}
use Rattle.laws.specs.Lists.{one, put_if, total, count, keep, All, gather}
use Rattle.laws.proofs.Tests.{true-T, same_test}
use Rattle.laws.proofs.Counts.{total_ext, count_map, map_id, map-keep, All-kept}
use Rattle.bundle.specs.Bundle.{firsts, pieces, ceil, Decides, bundle, need, Fits}
use Rattle.bundle.specs.Labels.{zero_if, first_at, codes, need_of, labels_of, pick, up_from, up_to}
use Rattle.bundle.proofs.Equality.{eq_true, numbers_decide}
use Rattle.bundle.proofs.Batches.{batches-fit, batches-number, in_list}
use Rattle.bundle.proofs.ByLabel.{by_label}

-- ─── equal codes are equal terms ───

module _ {K : Type 0} (eq : K → K → Bool) (d : Decides eq) where
  -- what stands at the first place of k is k
  at_first : (e k : K) (ks : List K) → 1 ≤ count (eq k) ks → get_or ks (first_at eq k ks) e ≡ k
  at_first e k [] h = absurd (omega arith)
  at_first e k (j ∷ ks) h = go (eq k j) (d.right k j) h (at_first e k ks)
    where
      go : (z : Bool) → (T z → k ≡ j) → 1 ≤ one z + count (eq k) ks → (1 ≤ count (eq k) ks → get_or ks (first_at eq k ks) e ≡ k) → get_or (j ∷ ks) (zero_if z (suc (first_at eq k ks))) e ≡ k
      go true f h ih = sym (f tt)
      go false f h ih = ih (omega arith)

  same_code : (k j : K) (ks : List K) → 1 ≤ count (eq k) ks → 1 ≤ count (eq j) ks → eq k j ≡ eqb (first_at eq k ks) (first_at eq j ks)
  same_code k j ks a b = same_test (eq k j) (eqb (first_at eq k ks) (first_at eq j ks))
      (λ t. true-T _ (eq_true eqb numbers_decide (first_at eq k ks) (first_at eq j ks) (ap (λ (i : K). first_at eq i ks) (d.right k j t))))
      (λ t. true-T _ (eq_true eq d k j (sym (at_first k k ks a) ∙ ap (λ (i : ℕ). get_or ks i k) (eqb→eq (first_at eq k ks) (first_at eq j ks) t) ∙ at_first k j ks b)))

-- ─── the batches by a test that says which collections are alike ───

abbrev groups : {X : Type 0} → (X → X → Bool) → ℕ → List X → List (List X)
groups R c xs = gather (λ x. pieces c (keep (R x) xs)) (firsts R xs)

-- what is said of collections of which M holds
module _ {X : Type 0} (M : X → Type 0) where
  all_firsts : (R : X → X → Bool) (xs : List X) → All M xs → All M (firsts R xs)
  all_firsts R [] h = tt
  all_firsts R (x ∷ xs) h = (h.0, All-kept M (λ y. not (R x y)) (firsts R xs) (all_firsts R xs h.1))

  keep-agree : (p q : X → Bool) → ((x : X) → M x → p x ≡ q x) → (xs : List X) → All M xs → keep p xs ≡ keep q xs
  keep-agree p q e [] h = refl
  keep-agree p q e (x ∷ xs) h = ap₂ {C = List X} (λ (z : Bool) (l : List X). put_if z x l) (e x h.0) (keep-agree p q e xs h.1)

  gather-agree : (f g : X → List (List X)) → ((x : X) → M x → f x ≡ g x) → (xs : List X) → All M xs → gather f xs ≡ gather g xs
  gather-agree f g e [] h = refl
  gather-agree f g e (x ∷ xs) h = ap₂ {C = List (List X)} (λ (l m : List (List X)). l ++ m) (e x h.0) (gather-agree f g e xs h.1)

  module _ (R S : X → X → Bool) (e : (x y : X) → M x → M y → R x y ≡ S x y) where
    firsts-agree : (xs : List X) → All M xs → firsts R xs ≡ firsts S xs
    firsts-agree [] h = refl
    firsts-agree (x ∷ xs) h = ap {B = List X} (λ (l : List X). x ∷ l)
        (ap (keep (λ y. not (R x y))) (firsts-agree xs h.1)
        ∙ keep-agree (λ y. not (R x y)) (λ y. not (S x y)) (λ y a. ap not (e x y h.0 a)) (firsts S xs) (all_firsts S xs h.1))

    groups-agree : (c : ℕ) (xs : List X) → All M xs → groups R c xs ≡ groups S c xs
    groups-agree c xs h = ap (gather (λ x. pieces c (keep (R x) xs))) (firsts-agree xs h)
        ∙ gather-agree (λ x. pieces c (keep (R x) xs)) (λ x. pieces c (keep (S x) xs)) (λ x a. ap (pieces c) (keep-agree (R x) (S x) (λ y b. e x y a b) xs h)) (firsts S xs)
        (all_firsts S xs h)

module _ {X K : Type 0} (terms : X → K) (eq : K → K → Bool) where
  gather-map : (f : K → List (List X)) (xs : List X) → gather f (map terms xs) ≡ gather (λ x. f (terms x)) xs
  gather-map f [] = refl
  gather-map f (x ∷ xs) = ap {B = List (List X)} (λ (l : List (List X)). f (terms x) ++ l) (gather-map f xs)

  firsts-map : (xs : List X) → map terms (firsts (λ x y. eq (terms x) (terms y)) xs) ≡ firsts eq (map terms xs)
  firsts-map [] = refl
  firsts-map (x ∷ xs) = ap {B = List K} (λ (l : List K). terms x ∷ l)
      (map-keep terms (λ j. not (eq (terms x) j)) (firsts (λ x y. eq (terms x) (terms y)) xs) ∙ ap (keep (λ j. not (eq (terms x) j))) (firsts-map xs))

  bundle-groups : (c : ℕ) (xs : List X) → bundle terms eq c xs ≡ groups (λ x y. eq (terms x) (terms y)) c xs
  bundle-groups c xs = ap (gather (λ k. pieces c (keep (λ x. eq k (terms x)) xs))) (sym (firsts-map xs))
      ∙ gather-map (λ k. pieces c (keep (λ x. eq k (terms x)) xs)) (firsts (λ x y. eq (terms x) (terms y)) xs)

-- ─── the batches by number, and by code ───

need-map : {X : Type 0} (code : X → ℕ) (c : ℕ) (xs : List X) → need code eqb c xs ≡ need_of c (map code xs)
need-map code c xs = total_ext (λ k. ceil (count (λ x. eqb k (code x)) xs) c) (λ k. ceil (count (eqb k) (map code xs)) c) (firsts eqb (map code xs))
    (λ k. ap (λ (n : ℕ). ceil n c) (sym (count_map code (eqb k) xs)))
    ∙ ap (λ (ts : List ℕ). total (λ k. ceil (count (eqb k) (map code xs)) c) (firsts eqb ts)) (sym (map_id (map code xs)))

-- a list by what stands at each place
tabled : {B : Type 0} (b : B) (f : ℕ → B) (k : ℕ) (l : List B) → ((i : ℕ) → i < length l → get_or l i b ≡ f (k + i)) → l ≡ map f (up_from k (length l))
tabled b f k [] e = refl
tabled {B} b f k (x ∷ l) e =
    let z : k + 0 ≡ k = omega arith in
    ap₂ {C = List B} (λ (y : B) (ys : List B). y ∷ ys) (e 0 (omega arith) ∙ ap f z)
    (tabled b f (suc k) l (λ i h. e (suc i) (omega arith) ∙ let w : k + suc i ≡ suc k + i = omega arith in ap f w))

-- what holds of each, at a place
pub all-at : {A : Type 0} (P : A → Type 0) (d : A) (xs : List A) → All P xs → (i : ℕ) → i < length xs → P (get_or xs i d)
all-at P d [] h i l = absurd (not-suc-le-zero l)
all-at P d (x ∷ xs) h zero l = h.0
all-at P d (x ∷ xs) h (suc i) l = all-at P d xs h.1 i (le_of_suc-le-suc l)

-- no more collections are picked by a label than have it
pick_le : {X : Type 0} (n : ℕ) (ls : List ℕ) (xs : List X) → length (pick n ls xs) ≤ count (eqb n) ls
pick_le n [] xs = omega arith
pick_le n (l ∷ ls) [] = omega arith
pick_le n (l ∷ ls) (x ∷ xs) = go (eqb n l) (pick_le n ls xs)
  where
    go : (z : Bool) → length (pick n ls xs) ≤ count (eqb n) ls → length (put_if z x (pick n ls xs)) ≤ one z + count (eqb n) ls
    go true h = omega arith
    go false h = omega arith

-- numbers that are equal for two collections exactly where their terms are
module _ {X K : Type 0} (terms : X → K) (eq : K → K → Bool) (d : Decides eq) (M : X → Type 0) (number : X → ℕ)
    (e : (x y : X) → M x → M y → eq (terms x) (terms y) ≡ eqb (number x) (number y))
    (c : ℕ) (xs : List X) (h : 1 ≤ c) (m : All M xs) where
  bundle-number : bundle terms eq c xs ≡ bundle number eqb c xs
  bundle-number = bundle-groups terms eq c xs
      ∙ groups-agree M (λ x y. eq (terms x) (terms y)) (λ x y. eqb (number x) (number y)) e c xs m
      ∙ sym (bundle-groups number eqb c xs)

  need-number : need number eqb c xs ≡ need terms eq c xs
  need-number = sym (batches-number number eqb numbers_decide c xs h) ∙ ap length (sym bundle-number) ∙ batches-number terms eq d c xs h

  pub need_by_number : need_of c (map number xs) ≡ need terms eq c xs
  need_by_number = sym (need-map number c xs) ∙ need-number

  pub batch_by_number : (n : ℕ) → n < need terms eq c xs → get_or (bundle terms eq c xs) n [] ≡ pick n (labels_of c (map number xs)) xs
  batch_by_number n l = rw bundle-number (by_label number eqb numbers_decide c xs n h (subst (λ (m : ℕ). n < m) (sym need-number) l))

  pub batches_by_number : bundle terms eq c xs ≡ map (λ n. pick n (labels_of c (map number xs)) xs) (up_to (need_of c (map number xs)))
  batches_by_number =
      let n : length (bundle terms eq c xs) ≡ need_of c (map number xs) = batches-number terms eq d c xs h ∙ sym need_by_number in
      tabled [] (λ n. pick n (labels_of c (map number xs)) xs) 0 (bundle terms eq c xs)
      (λ i l. batch_by_number i (omega (arith, batches-number terms eq d c xs h)) ∙ let z : i ≡ 0 + i = omega arith in ap (λ (j : ℕ). pick j (labels_of c (map number xs)) xs) z)
      ∙ ap (λ (k : ℕ). map (λ n. pick n (labels_of c (map number xs)) xs) (up_to k)) n

  pub label_used : (n : ℕ) → n < need_of c (map number xs) → 1 ≤ count (eqb n) (labels_of c (map number xs))
  label_used n l =
      let k : n < need terms eq c xs = omega (arith, need_by_number) in
      let b = all-at (λ b. (1 ≤ length b) × Fits terms c b) [] (bundle terms eq c xs) (batches-fit terms eq d c xs h) n (omega (arith, batches-number terms eq d c xs h)) in
      omega (arith, b.0, ap length (batch_by_number n k), pick_le n (labels_of c (map number xs)) xs)

-- the code is such a number
module _ {X K : Type 0} (terms : X → K) (eq : K → K → Bool) (d : Decides eq) (c : ℕ) (xs : List X) (h : 1 ≤ c) where
  abbrev code : X → ℕ
  code x = first_at eq (terms x) (map terms xs)

  abbrev Met : X → Type 0
  Met x = 1 ≤ count (eq (terms x)) (map terms xs)

  coded : (x y : X) → Met x → Met y → eq (terms x) (terms y) ≡ eqb (code x) (code y)
  coded x y a b = same_code eq d (terms x) (terms y) (map terms xs) a b

  met : All Met xs
  met = in_list terms eq d xs (map terms xs) (λ k. le_refl _)

  pub need_by_code : need_of c (codes terms eq xs) ≡ need terms eq c xs
  need_by_code = need_by_number terms eq d Met code coded c xs h met

  pub batch_by_code : (n : ℕ) → n < need terms eq c xs → get_or (bundle terms eq c xs) n [] ≡ pick n (labels_of c (codes terms eq xs)) xs
  batch_by_code = batch_by_number terms eq d Met code coded c xs h met
