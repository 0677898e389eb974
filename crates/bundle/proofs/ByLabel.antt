-- THE BATCHES BY LABEL.
--   piece-at   piece m of a list, cut after every c, is the c collections from the place m * c on
--   by_label   batch n of `bundle` is the collections with the label n, in list order
use Prim.Native.Nat.{ℕ, zero, suc, ◌+◌, ◌-◌, ◌*◌, ◌/◌, ◌≤◌, ◌<◌, max}
use native.Mathlib.Nat.{zero-mul, div-lt_iff_lt-mul, le-div_iff_mul-le, div-eq_of_lt-le, le_refl}
use native.Mathlib.Omega.{arith}
use native.Mathlib.Decide.{dec_lt}
use mathlib.Core.Bool.{Bool, true, false}
use mathlib.Core.List.{List, [], ◌∷◌, ◌++◌, map}
use mathlib.Core.Path.{◌≡◌, refl, ap, sym, subst, ◌∙◌}
use mathlib.Core.Logic.{◌≢◌}
use lib.Dec.{T, eqb}
use lib.ListN.{length, take, drop, get_or, length-drop, get_or-append}
use lib.Seq.{take-nil, drop-nil, drop-drop, get_or-append-add}
use borrow.Author.Tests.{eq-eqb, ne_eqb}
use Rattle.laws.specs.Lists.{one, put_if, total, count, gather}
use Rattle.laws.proofs.Counts.{total_ext, count-append, count_map, length-keep}
use Rattle.bundle.specs.Bundle.{firsts, cut, pieces, ceil, Decides, having, bundle, need}
use Rattle.bundle.specs.Labels.{zero_if, size_of, base, labels_from, labels, pick}
use Rattle.bundle.proofs.Equality.{eq_cases, eq_true, eq_false}
use Rattle.bundle.proofs.Firsts.{firsts-once}
use Rattle.bundle.proofs.Ceil.{div_lt_ceil}
use Rattle.bundle.proofs.Batches.{length-pieces}

-- ─── a batch by its number within its terms ───

module _ {A : Type 0} where
  get_or_cut : (n c : ℕ) (xs : List A) (m : ℕ) → 1 ≤ c → length xs ≤ n → get_or (cut n c xs) m [] ≡ take c (drop (m * c) xs)
  get_or_cut zero c [] m h k = rw (drop-nil (m * c), take-nil c)
  get_or_cut zero c (x ∷ xs) m h k = absurd (omega arith)
  get_or_cut (suc n) c [] m h k = rw (drop-nil (m * c), take-nil c)
  get_or_cut (suc n) c (x ∷ xs) zero h k = rw (zero-mul c)
  get_or_cut (suc n) c (x ∷ xs) (suc m) h k = get_or_cut n c (drop c (x ∷ xs)) m h (omega (arith, length-drop c (x ∷ xs)))
      ∙ let e : c + m * c ≡ suc m * c = omega arith in rw (drop-drop, e)

  pub piece-at : (c : ℕ) (xs : List A) (m : ℕ) → 1 ≤ c → get_or (pieces c xs) m [] ≡ take c (drop (m * c) xs)
  piece-at c xs m h = get_or_cut (length xs) c xs m h (le_refl _)

-- ─── the collections of one terms, by their labels ───

-- the part from lo up to hi of a list of which r collections are gone
abbrev window : {A : Type 0} → ℕ → ℕ → ℕ → List A → List A
window lo hi r xs = take (hi - max r lo) (drop (lo - r) xs)

module _ {A : Type 0} (lo hi r : ℕ) (x : A) (xs : List A) where
  window-before : r < lo → window lo hi r (x ∷ xs) ≡ window lo hi (suc r) xs
  window-before h =
      let e : lo - r ≡ suc (lo - suc r) = omega arith in
      let f : hi - max r lo ≡ hi - max (suc r) lo = omega arith in
      rw (e, f)

  window_in : lo ≤ r → r < hi → window lo hi r (x ∷ xs) ≡ x ∷ window lo hi (suc r) xs
  window_in h k =
      let e : lo - r ≡ 0 = omega arith in
      let f : lo - suc r ≡ 0 = omega arith in
      let g : hi - max r lo ≡ suc (hi - max (suc r) lo) = omega arith in
      rw (e, f, g)

  window-after : hi ≤ r → window lo hi r (x ∷ xs) ≡ window lo hi (suc r) xs
  window-after h =
      let f : hi - max r lo ≡ 0 = omega arith in
      let g : hi - max (suc r) lo ≡ 0 = omega arith in
      rw (f, g)

-- a collection of the terms, after r others of them: it is in batch m exactly if r / c is m
own-step : {A : Type 0} (c m b r : ℕ) (x : A) (rest xs : List A) → 1 ≤ c → rest ≡ window (m * c) (m * c + c) (suc r) xs
    → put_if (eqb (b + m) (b + r / c)) x rest ≡ window (m * c) (m * c + c) r (x ∷ xs)
own-step {A} c m b r x rest xs h e = go (dec_lt r (m * c)) (dec_lt r (m * c + c))
  where
    lo : ℕ
    lo = m * c

    out : r / c ≢ m → window lo (lo + c) r (x ∷ xs) ≡ window lo (lo + c) (suc r) xs → put_if (eqb (b + m) (b + r / c)) x rest ≡ window lo (lo + c) r (x ∷ xs)
    out n w = rw (ne_eqb (b + m) (b + r / c) (omega arith)) (e ∙ sym w)

    go : Dec (r < lo) → Dec (r < lo + c) → put_if (eqb (b + m) (b + r / c)) x rest ≡ window lo (lo + c) r (x ∷ xs)
    go (yes p) q = out (let l : r / c < m = (div-lt_iff_lt-mul {x = r} {y = m} h).1 p in omega arith) (window-before lo (lo + c) r x xs p)
    go (no p) (yes q) =
        let l : r / c ≡ m = div-eq_of_lt-le {k = m} c {m = r} (omega arith) (omega arith) in
        rw (eq-eqb (b + m) (b + r / c) (omega arith)) (ap {B = List A} (λ (l : List A). x ∷ l) e ∙ sym (window_in lo (lo + c) r x xs (omega arith) q))
    go (no p) (no q) = out (let l : suc m ≤ r / c = (le-div_iff_mul-le {x = suc m} {y = r} h).1 (omega arith) in omega arith) (window-after lo (lo + c) r x xs (omega arith))

module _ {X K : Type 0} (terms : X → K) (eq : K → K → Bool) (d : Decides eq) where
  self-one : (k : K) → one (eq k k) ≡ 1
  self-one k = ap one (eq_true eq d k k refl)

  -- of the collections of t, those whose label is that of batch m of t; of others none, if their labels are apart
  picked : (first : K → ℕ) (c m : ℕ) (t : K) (all : K → ℕ) (before : List K) (xs : List X) → 1 ≤ c
      → ((k : K) (r : ℕ) → k ≢ t → r < all k → first k + r / c ≢ first t + m)
      → ((k : K) → count (eq k) before + count (eq k) (map terms xs) ≡ all k)
      → pick (first t + m) (labels_from eq first c before (map terms xs)) xs ≡ window (m * c) (m * c + c) (count (eq t) before) (having terms eq t xs)
  picked first c m t all before [] h n w = rw (drop-nil (m * c - count (eq t) before), take-nil (m * c + c - max (count (eq t) before) (m * c)))
  picked first c m t all before (x ∷ xs) h n w = go (picked first c m t all (before ++ terms x ∷ []) xs h n (λ j. omega (arith, w j, count-append (eq j) before (terms x ∷ []))))
    where
      k : K
      k = terms x

      rest : List X
      rest = pick (first t + m) (labels_from eq first c (before ++ k ∷ []) (map terms xs)) xs

      Goal : Bool → Type 0
      Goal z = put_if (eqb (first t + m) (first k + count (eq k) before / c)) x rest ≡ window (m * c) (m * c + c) (count (eq t) before) (put_if z x (having terms eq t xs))

      go : rest ≡ window (m * c) (m * c + c) (count (eq t) (before ++ k ∷ [])) (having terms eq t xs) → Goal (eq t k)
      go ih = eq_cases eq d Goal t k own other
        where
          own : t ≡ k → Goal true
          own e =
              let f : count (eq t) (before ++ k ∷ []) ≡ suc (count (eq t) before) = omega (arith, count-append (eq t) before (k ∷ []), ap one (eq_true eq d t k e)) in
              subst (λ (j : K). put_if (eqb (first t + m) (first j + count (eq j) before / c)) x rest ≡ window (m * c) (m * c + c) (count (eq t) before) (x ∷ having terms eq t xs)) e
              (own-step c m (first t) (count (eq t) before) x rest (having terms eq t xs) h (rw f at ih))

          other : t ≢ k → Goal false
          other e =
              let f : count (eq t) (before ++ k ∷ []) ≡ count (eq t) before = omega (arith, count-append (eq t) before (k ∷ []), ap one (eq_false eq d t k e)) in
              let g : first k + count (eq k) before / c ≢ first t + m = n k (count (eq k) before) (λ p. e (sym p)) (omega (arith, w k, self-one k)) in
              rw (ne_eqb (first t + m) (first k + count (eq k) before / c) (omega arith)) (rw f at ih)

-- ─── the terms and the number within them of each batch ───

-- batch n is batch `nth` of the terms `of`
record Place {X K : Type 0} (eq : K → K → Bool) (size : K → ℕ) (f : K → List (List X)) (ts : List K) (n : ℕ) : Type 0 where
  of : K
  nth : ℕ
  sum : n ≡ base eq size of ts + nth
  small : nth < size of
  there : 1 ≤ count (eq of) ts
  batch : get_or (gather f ts) n [] ≡ get_or (f of) nth []

module _ {X K : Type 0} (eq : K → K → Bool) (d : Decides eq) (size : K → ℕ) (f : K → List (List X)) (sizes : (k : K) → length (f k) ≡ size k) where
  place : (ts : List K) → ((k : K) → count (eq k) ts ≤ 1) → (n : ℕ) → n < total size ts → Place eq size f ts n
  place [] once n h = absurd (omega arith)
  place (t ∷ ts) once n h = go (dec_lt n (size t)) (place ts (λ k. omega (arith, once k)) (n - size t))
    where
      self : one (eq t t) ≡ 1
      self = ap one (eq_true eq d t t refl)

      other : (k : K) → 1 ≤ count (eq k) ts → k ≢ t
      other k l e = omega (arith, once k, ap one (eq_true eq d k t e))

      go : Dec (n < size t) → (n - size t < total size ts → Place eq size f ts (n - size t)) → Place eq size f (t ∷ ts) n
      go (yes p) g = record {
        of = t;
        nth = n;
        sum = rw (eq_true eq d t t refl) (omega arith);
        small = p;
        there = omega (arith, self);
        batch = get_or-append (f t) (gather f ts) [] n (omega (arith, sizes t));
      }
      go (no p) g =
          let r = g (omega arith) in
          record {
            of = r.of;
            nth = r.nth;
            sum = rw (eq_false eq d r.of t (other r.of r.there)) (omega (arith, r.sum));
            small = r.small;
            there = omega (arith, r.there);
            batch = (let q : n ≡ length (f t) + (n - size t) = omega (arith, sizes t) in
                ap (λ (i : ℕ). get_or (f t ++ gather f ts) i []) q ∙ get_or-append-add (f t) (gather f ts) (n - size t) [] ∙ r.batch);
          }

-- the batches of two terms have different numbers
module _ {K : Type 0} (eq : K → K → Bool) (d : Decides eq) (size : K → ℕ) (t k : K) (m r : ℕ) (apt : k ≢ t) where
  apart : (ts : List K) → 1 ≤ count (eq t) ts → m < size t → r < size k → base eq size k ts + r ≢ base eq size t ts + m
  apart [] h a b = absurd (omega arith)
  apart (u ∷ ts) h a b = go (eq k u) (eq t u) (d.right k u) (d.right t u) h (λ g. apart ts g a b)
    where
      go : (z y : Bool) → (T z → k ≡ u) → (T y → t ≡ u) → 1 ≤ one y + count (eq t) ts → (1 ≤ count (eq t) ts → base eq size k ts + r ≢ base eq size t ts + m)
          → zero_if z (size u + base eq size k ts) + r ≢ zero_if y (size u + base eq size t ts) + m
      go true true e f g ih = absurd (apt (e tt ∙ sym (f tt)))
      go true false e f g ih = let q : size k ≡ size u = ap size (e tt) in omega arith
      go false true e f g ih = let q : size t ≡ size u = ap size (f tt) in omega arith
      go false false e f g ih = let q : base eq size k ts + r ≢ base eq size t ts + m = ih (omega arith) in omega arith

module _ {X K : Type 0} (terms : X → K) (eq : K → K → Bool) (d : Decides eq) where
  pub by_label : (c : ℕ) (xs : List X) (n : ℕ) → 1 ≤ c → n < need terms eq c xs → get_or (bundle terms eq c xs) n [] ≡ pick n (labels eq c (map terms xs)) xs
  by_label c xs n h l = go (place eq d size f sizes ts (λ k. omega (arith, firsts-once eq d k ks)) n (omega (arith, total_ext size (λ k. ceil (count (λ x. eq k (terms x)) xs) c) ts counted)))
    where
      ks : List K
      ks = map terms xs

      ts : List K
      ts = firsts eq ks

      size : K → ℕ
      size = size_of eq c ks

      f : K → List (List X)
      f k = pieces c (having terms eq k xs)

      counted : (k : K) → size k ≡ ceil (count (λ x. eq k (terms x)) xs) c
      counted k = ap (λ (m : ℕ). ceil m c) (count_map terms (eq k) xs)

      sizes : (k : K) → length (f k) ≡ size k
      sizes k = length-pieces c (having terms eq k xs) h ∙ ap (λ (m : ℕ). ceil m c) (length-keep (λ x. eq k (terms x)) xs) ∙ sym (counted k)

      go : Place eq size f ts n → get_or (gather f ts) n [] ≡ pick n (labels eq c ks) xs
      go r =
          let m : ℕ = r.nth in
          let a : m * c + c - max 0 (m * c) ≡ c = omega arith in
          let b : m * c - 0 ≡ m * c = omega arith in
          r.batch ∙ piece-at c (having terms eq r.of xs) m h
          ∙ sym (picked terms eq d (λ k. base eq size k ts) c m r.of (λ k. count (eq k) ks) [] xs h
          (λ k i q w. apart eq d size r.of k m (i / c) q ts r.there r.small (div_lt_ceil i (count (eq k) ks) c h w)) (λ k. omega arith) ∙ rw (a, b))
          ∙ ap (λ (i : ℕ). pick i (labels eq c ks) xs) (sym r.sum)
