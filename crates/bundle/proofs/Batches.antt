-- WHAT `bundle` MAKES, of collections of any type and terms that a test tells apart, at a ceiling from 1.
--   batches-fit      (a) every batch has a collection, at most the ceiling's worth, and collections of one terms
--   batches-same     (b) together they hold exactly the collections, repeats counted
--   batches-number   (c) there are as many as `need` says
--   bundle-carries   so they carry the collections
--   in_list          the terms of each collection stand among those of the list
--   length-pieces    a list is cut into its length divided by the ceiling, rounded up
use Prim.Native.Nat.{ℕ, zero, suc, ◌≤◌}
use native.Mathlib.Nat.{le_refl, le_trans}
use native.Mathlib.Omega.{arith}
use mathlib.Core.Bool.{Bool, true, false, ◌&&◌, and-true, and-false}
use mathlib.Core.List.{List, [], ◌∷◌, map}
use mathlib.Core.Path.{◌≡◌, refl, ap, sym, ◌∙◌}
use lib.Dec.{T}
use lib.ListN.{length, drop, take-append-drop, length-take, length-drop}
use Rattle.laws.specs.Lists.{one, total, count, concat, All}
use Rattle.laws.proofs.Counts.{total_plus, total_ext, total-zero, count_ext, count-keep, length-keep, All-map, All-take, All-drop, All-keep, length-gather, All-gather, count_concat_gather}
use Rattle.bundle.specs.Bundle.{Same, cut, pieces, ceil, Decides, all_terms, having, bundle, need, Fits, Carries}
use Rattle.bundle.proofs.Equality.{eq_true, eq_sym}
use Rattle.bundle.proofs.Firsts.{firsts-once}
use Rattle.bundle.proofs.Ceil.{ceil-zero, ceil-step}

-- ─── pieces ───

module _ {A : Type 0} where
  -- each piece has 1 to c collections, and what holds of all collections holds of its collections
  cut-good : (P : A → Type 0) (n c : ℕ) (xs : List A) → 1 ≤ c → All P xs → All (λ b. (1 ≤ length b) × (length b ≤ c) × All P b) (cut n c xs)
  cut-good P zero c xs h a = tt
  cut-good P (suc n) c [] h a = tt
  cut-good P (suc n) c (x ∷ xs) h a = (
    (omega (arith, length-take c (x ∷ xs)), omega (arith, length-take c (x ∷ xs)), All-take P c (x ∷ xs) a),
    cut-good P n c (drop c (x ∷ xs)) h (All-drop P c (x ∷ xs) a),
  )

  concat-cut : (n c : ℕ) (xs : List A) → 1 ≤ c → length xs ≤ n → concat (cut n c xs) ≡ xs
  concat-cut zero c [] h k = refl
  concat-cut zero c (x ∷ xs) h k = absurd (omega arith)
  concat-cut (suc n) c [] h k = refl
  concat-cut (suc n) c (x ∷ xs) h k = rw (concat-cut n c (drop c (x ∷ xs)) h (omega (arith, length-drop c (x ∷ xs)))) (take-append-drop c (x ∷ xs))

  length_cut : (n c : ℕ) (xs : List A) → 1 ≤ c → length xs ≤ n → length (cut n c xs) ≡ ceil (length xs) c
  length_cut zero c [] h k = sym (ceil-zero c h)
  length_cut zero c (x ∷ xs) h k = absurd (omega arith)
  length_cut (suc n) c [] h k = sym (ceil-zero c h)
  length_cut (suc n) c (x ∷ xs) h k =
      omega (
        arith,
        length_cut n c (drop c (x ∷ xs)) h (omega (arith, length-drop c (x ∷ xs))),
        ap (λ (m : ℕ). ceil m c) (length-drop c (x ∷ xs)),
        ceil-step (length (x ∷ xs)) c h (omega arith),
      )

  pub length-pieces : (c : ℕ) (xs : List A) → 1 ≤ c → length (pieces c xs) ≡ ceil (length xs) c
  length-pieces c xs h = length_cut (length xs) c xs h (le_refl _)

-- ─── the batches ───

module _ {X K : Type 0} (terms : X → K) (eq : K → K → Bool) (d : Decides eq) where
  -- a collection is counted once if its terms stand once among the terms
  share-one : (p : X → Bool) (x : X) (ks : List K) → count (eq (terms x)) ks ≡ 1 → total (λ k. one (eq k (terms x) && p x)) ks ≡ one (p x)
  share-one p x ks h = go (p x)
    where
      go : (z : Bool) → total (λ k. one (eq k (terms x) && z)) ks ≡ one z
      go true = count_ext (λ k. eq k (terms x) && true) (eq (terms x)) ks (λ k. and-true (eq k (terms x)) ∙ eq_sym eq d k (terms x)) ∙ h
      go false = count_ext (λ k. eq k (terms x) && false) (λ k. false) ks (λ k. and-false (eq k (terms x))) ∙ total-zero ks

  share : (p : X → Bool) (xs : List X) (ks : List K) → All (λ x. count (eq (terms x)) ks ≡ 1) xs → total (λ k. count (λ x. eq k (terms x) && p x) xs) ks ≡ count p xs
  share p [] ks h = total-zero ks
  share p (x ∷ xs) ks h =
      omega (arith, total_plus (λ k. one (eq k (terms x) && p x)) (λ k. count (λ y. eq k (terms y) && p y) xs) ks, share-one p x ks h.0, share p xs ks h.1)

  -- each collection's terms stand among all terms, and once
  pub in_list : (xs : List X) (ks : List K) → ((k : K) → count (eq k) (map terms xs) ≤ count (eq k) ks) → All (λ x. 1 ≤ count (eq (terms x)) ks) xs
  in_list [] ks h = tt
  in_list (x ∷ xs) ks h = (omega (arith, h (terms x), ap one (eq_true eq d (terms x) (terms x) refl)), in_list xs ks (λ k. le_trans (omega arith) (h k)))

  terms-once : (xs : List X) → All (λ x. count (eq (terms x)) (all_terms terms eq xs) ≡ 1) xs
  terms-once xs = All-map (λ x. 1 ≤ count (eq (terms x)) (map terms xs)) (λ x. count (eq (terms x)) (all_terms terms eq xs) ≡ 1) xs
      (λ x h. omega (arith, firsts-once eq d (terms x) (map terms xs))) (in_list xs (map terms xs) (λ k. le_refl _))

  module _ (c : ℕ) (xs : List X) (h : 1 ≤ c) where
    -- the batches of the terms k
    of-terms : (k : K) → All (λ b. (1 ≤ length b) × Fits terms c b) (pieces c (having terms eq k xs))
    of-terms k = All-map (λ b. (1 ≤ length b) × (length b ≤ c) × All (λ x. terms x ≡ k) b) (λ b. (1 ≤ length b) × Fits terms c b) (pieces c (having terms eq k xs))
        (λ b g. (g.0, record { size = omega (arith, g.1); own = k; alike = g.2 }))
        (cut-good (λ x. terms x ≡ k) (length (having terms eq k xs)) c (having terms eq k xs) h
        (All-map (λ x. T (eq k (terms x))) (λ x. terms x ≡ k) (having terms eq k xs) (λ x t. sym (d.right k (terms x) t)) (All-keep (λ x. eq k (terms x)) xs)))

    -- (a)
    pub batches-fit : All (λ b. (1 ≤ length b) × Fits terms c b) (bundle terms eq c xs)
    batches-fit = All-gather (λ b. (1 ≤ length b) × Fits terms c b) (λ k. pieces c (having terms eq k xs)) (all_terms terms eq xs) of-terms

    -- (b)
    pub batches-same : Same (concat (bundle terms eq c xs)) xs
    batches-same p = count_concat_gather p (λ k. pieces c (having terms eq k xs)) (all_terms terms eq xs)
        ∙ total_ext (λ k. count p (concat (pieces c (having terms eq k xs)))) (λ k. count (λ x. eq k (terms x) && p x) xs) (all_terms terms eq xs)
        (λ k. ap (count p) (concat-cut (length (having terms eq k xs)) c (having terms eq k xs) h (le_refl _)) ∙ count-keep p (λ x. eq k (terms x)) xs)
        ∙ share p xs (all_terms terms eq xs) (terms-once xs)

    -- (c)
    pub batches-number : length (bundle terms eq c xs) ≡ need terms eq c xs
    batches-number = length-gather (λ k. pieces c (having terms eq k xs)) (all_terms terms eq xs)
        ∙ total_ext (λ k. length (pieces c (having terms eq k xs))) (λ k. ceil (count (λ x. eq k (terms x)) xs) c) (all_terms terms eq xs)
        (λ k. length-pieces c (having terms eq k xs) h ∙ ap (λ (n : ℕ). ceil n c) (length-keep (λ x. eq k (terms x)) xs))

    pub bundle-carries : Carries terms c xs (bundle terms eq c xs)
    bundle-carries = record {
      fit = All-map (λ b. (1 ≤ length b) × Fits terms c b) (Fits terms c) (bundle terms eq c xs) (λ b g. g.1) batches-fit;
      same = batches-same;
    }
