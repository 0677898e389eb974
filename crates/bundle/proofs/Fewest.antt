-- THE FEWEST: `need` is the least number of batches that carry the collections, of any type and terms, at a ceiling from 1.
--   fewest            (d) whatever batches carry the collections, each of one terms and within the ceiling, they are no fewer
--   bundle-fewest     so none are fewer than the batches of `bundle`
--   refused           (e) more than m are needed exactly when no list of at most m batches carries the collections
--   need_le_length    there is no need of more batches than collections
--   fewest-message    (d) for batches that name their terms, as a message's do
use Prim.Native.Nat.{ℕ, suc, ◌*◌, ◌≤◌, ◌<◌}
use native.Mathlib.Omega.{arith}
use native.Mathlib.Decide.{dec_le}
use mathlib.Core.Bool.{Bool, not}
use mathlib.Core.List.{List, [], ◌∷◌, map}
use mathlib.Core.Path.{◌≡◌, refl, ap, ◌∙◌}
use mathlib.Core.Logic.{◌≢◌, ◌↔◌}
use lib.Dec.{T}
use lib.ListN.{length, length-map}
use Rattle.laws.specs.Lists.{one, total, count, concat, All}
use Rattle.laws.proofs.Counts.{total_le, count-append, count_le_length, count_none, All-map}
use Rattle.bundle.specs.Bundle.{Same, ceil, Decides, all_terms, bundle, need, Fits, Carries}
use Rattle.bundle.proofs.Equality.{eq_cases, eq_false}
use Rattle.bundle.proofs.Firsts.{firsts-once, spread}
use Rattle.bundle.proofs.Ceil.{ceil_le}
use Rattle.bundle.proofs.Batches.{bundle-carries, batches-number}

module _ {X K : Type 0} (terms : X → K) (eq : K → K → Bool) (d : Decides eq) where
  -- the terms of each batch
  abbrev owns : (c : ℕ) (bs : List (List X)) → All (Fits terms c) bs → List K
  owns c [] f = []
  owns c (b ∷ bs) f = f.0.own ∷ owns c bs f.1

  length-owns : (c : ℕ) (bs : List (List X)) (f : All (Fits terms c) bs) → length (owns c bs f) ≡ length bs
  length-owns c [] f = refl
  length-owns c (b ∷ bs) f = ap suc (length-owns c bs f.1)

  -- a batch has at most c collections of its own terms, and none of others
  in_batch : (c : ℕ) (b : List X) (f : Fits terms c b) (k : K) → count (λ x. eq k (terms x)) b ≤ one (eq k f.own) * c
  in_batch c b f k = eq_cases eq d (λ z. count (λ x. eq k (terms x)) b ≤ one z * c) k f.own (λ e. omega (arith, f.size, count_le_length (λ x. eq k (terms x)) b)) none
    where
      none : k ≢ f.own → count (λ x. eq k (terms x)) b ≤ 0 * c
      none n = omega (
        arith,
        count_none (λ x. eq k (terms x)) b
            (All-map (λ x. terms x ≡ f.own) (λ x. T (not (eq k (terms x)))) b (λ x e. rw (eq_false eq d k (terms x) (λ g. n (g ∙ e))) tt) f.alike),
      )

  in_batches : (c : ℕ) (bs : List (List X)) (f : All (Fits terms c) bs) (k : K) → count (λ x. eq k (terms x)) (concat bs) ≤ count (eq k) (owns c bs f) * c
  in_batches c [] f k = omega arith
  in_batches c (b ∷ bs) f k = omega (arith, count-append (λ x. eq k (terms x)) b (concat bs), in_batch c b f.0 k, in_batches c bs f.1 k)

  at_most : (ks ls : List K) → ((k : K) → count (eq k) ks ≤ 1) → total (λ l. count (eq l) ks) ls ≤ length ls
  at_most ks [] h = omega arith
  at_most ks (l ∷ ls) h = omega (arith, h l, at_most ks ls h)

  -- (d)
  pub fewest : (c : ℕ) (xs : List X) (bs : List (List X)) → 1 ≤ c → Carries terms c xs bs → need terms eq c xs ≤ length bs
  fewest c xs bs h m =
      omega (
        arith,
        total_le (λ k. ceil (count (λ x. eq k (terms x)) xs) c) (λ k. count (eq k) ls) ks
            (λ k. ceil_le (count (λ x. eq k (terms x)) xs) c (count (eq k) ls) h (omega (arith, in_batches c bs m.fit k, m.same (λ x. eq k (terms x))))),
        spread eq d ks ls,
        at_most ks ls (λ k. omega (arith, firsts-once eq d k (map terms xs))),
        length-owns c bs m.fit,
      )
    where
      ks : List K
      ks = all_terms terms eq xs

      ls : List K
      ls = owns c bs m.fit

  pub bundle-fewest : (c : ℕ) (xs : List X) (bs : List (List X)) → 1 ≤ c → Carries terms c xs bs → length (bundle terms eq c xs) ≤ length bs
  bundle-fewest c xs bs h m = rw (batches-number terms eq d c xs h) (fewest c xs bs h m)

  -- (e)
  pub refused : (m c : ℕ) (xs : List X) → 1 ≤ c → (m < need terms eq c xs) ↔ ((bs : List (List X)) → Carries terms c xs bs → length bs ≤ m → ⊥)
  refused m c xs h = (λ l bs k few. omega (arith, fewest c xs bs h k), λ f. go (dec_le (need terms eq c xs) m) f)
    where
      go : Dec (need terms eq c xs ≤ m) → ((bs : List (List X)) → Carries terms c xs bs → length bs ≤ m → ⊥) → m < need terms eq c xs
      go (yes k) f = absurd (f (bundle terms eq c xs) (bundle-carries terms eq d c xs h) (rw (batches-number terms eq d c xs h) k))
      go (no k) f = omega arith

  -- each collection in a batch of its own
  singly : (c : ℕ) (xs : List X) → 1 ≤ c → All (Fits terms c) (map (λ x. x ∷ []) xs)
  singly c [] h = tt
  singly c (x ∷ xs) h = (record { size = omega arith; own = terms x; alike = (refl, tt) }, singly c xs h)

  concat-singly : (xs : List X) → concat (map (λ x. x ∷ []) xs) ≡ xs
  concat-singly [] = refl
  concat-singly (x ∷ xs) = ap {B = List X} (λ (l : List X). x ∷ l) (concat-singly xs)

  pub need_le_length : (c : ℕ) (xs : List X) → 1 ≤ c → need terms eq c xs ≤ length xs
  need_le_length c xs h =
      omega (
        arith,
        fewest c xs (map (λ x. x ∷ []) xs) h (record { fit = singly c xs h; same = λ p. ap (count p) (concat-singly xs) }),
        length-map xs (λ x. x ∷ []),
      )

-- ─── batches that name their terms ───

module _ {X K Y : Type 0} (terms : X → K) (eq : K → K → Bool) (d : Decides eq) (collection : K → Y → X) (own : (k : K) (y : Y) → terms (collection k y) ≡ k) where
  -- what a message's batches carry: each transaction y with its batch's terms
  abbrev pub carried : List (K × List Y) → List (List X)
  carried ms = map (λ m. map (collection m.0) m.1) ms

  of-own : (k : K) (ys : List Y) → All (λ x. terms x ≡ k) (map (collection k) ys)
  of-own k [] = tt
  of-own k (y ∷ ys) = (own k y, of-own k ys)

  carried-fits : (c : ℕ) (ms : List (K × List Y)) → All (λ m. length m.1 ≤ c) ms → All (Fits terms c) (carried ms)
  carried-fits c [] h = tt
  carried-fits c (m ∷ ms) h =
      (record { size = rw (length-map m.1 (collection m.0)) h.0; own = m.0; alike = of-own m.0 m.1 }, carried-fits c ms h.1)

  pub fewest-message : (c : ℕ) (xs : List X) (ms : List (K × List Y)) → 1 ≤ c → All (λ m. length m.1 ≤ c) ms → Same (concat (carried ms)) xs
      → need terms eq c xs ≤ length ms
  fewest-message c xs ms h k e = omega (arith, fewest terms eq d c xs (carried ms) h (record { fit = carried-fits c ms k; same = e }), length-map ms (λ m. map (collection m.0) m.1))
