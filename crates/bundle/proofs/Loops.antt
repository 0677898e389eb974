-- WHAT THE LOOPS OF src/lib.rt KEEP. ts are the codes; `get_or ts i 0` is the code of collection i.
--   Met ts k m n            `mark`: n of the first m collections have the code k
--   searching_on            `label`, the inner search: the code is not among those that it went past
--   searched_new, searched_old   at its end: the code comes for the first time, or came before
--   Counted c ts i n        `label`: n batches for the codes before i, with those that the other codes need, are the batches needed
--   Marked .. m             `mark`: the collections of one code among the first m have their labels (the record is of specs/)
--   Labelled c ts out i n   `label`: the collections of the codes before i have their labels, and n is the next free number
-- Each holds at the start (-start), at one collection more (-same or -other; -new or -old, for a code that comes for the first time or came before), and says
-- at the end (-all, -end) what the function ensures. counted-small: there are never more batches than collections. labels_length: there is a label for each.
use Prim.Native.Nat.{ℕ, zero, suc, ◌+◌, ◌/◌, ◌≤◌, ◌<◌}
use native.Mathlib.Nat.{zero-add, add-zero, le_refl}
use native.Mathlib.Numerals.{add-one}
use native.Mathlib.Omega.{arith}
use native.Mathlib.Decide.{dec_lt}
use mathlib.Core.Bool.{Bool, true, false, not, ◌&&◌}
use mathlib.Core.List.{List, [], ◌∷◌, ◌++◌, append-nil}
use mathlib.Core.Path.{◌≡◌, refl, ap, sym, subst, ◌∙◌}
use mathlib.Core.Logic.{◌≢◌}
use lib.Dec.{eqb}
use lib.ListN.{length, take, drop, get_or, set, length-set, drop_of_length-le}
use lib.Seq.{drop-cons, take-suc, take_all, append_snoc, get_or-set_same, get_or-set_other, ext_get_or}
use borrow.Author.Tests.{eq-eqb, ne_eqb}
use Rattle.laws.specs.Lists.{one, put_if, total, count, keep}
use Rattle.laws.proofs.Tests.{eqb-cases}
use Rattle.laws.proofs.Counts.{count-append, keep_ext, keep-true, keep-keep, map_id}
use Rattle.bundle.specs.Bundle.{firsts, ceil}
use Rattle.bundle.specs.Labels.{need_of, size_of, base, labels_from, labels_of, Marked}
use Rattle.bundle.proofs.Equality.{numbers_decide, eq_sym}
use Rattle.bundle.proofs.Fewest.{need_le_length}

-- ─── how many of the first collections have a code ───

abbrev earlier : List ℕ → ℕ → ℕ → ℕ
earlier ts m k = count (eqb k) (take m ts)

earlier_step : (ts : List ℕ) (m k : ℕ) → m < length ts → earlier ts (m + 1) k ≡ earlier ts m k + one (eqb k (get_or ts m 0))
earlier_step ts m k h = rw (add-one, take-suc ts m 0 h) (omega (arith, count-append (eqb k) (take m ts) (get_or ts m 0 ∷ [])))

earlier_mono : (ts : List ℕ) (m i k : ℕ) → m ≤ i → earlier ts m k ≤ earlier ts i k
earlier_mono ts zero i k h = omega arith
earlier_mono [] (suc m) (suc i) k h = omega arith
earlier_mono (t ∷ ts) (suc m) (suc i) k h = omega (arith, earlier_mono ts m i k (omega arith))
earlier_mono ts (suc m) zero k h = absurd (omega arith)

-- the code of collection j stands among the first i
earlier-found : (ts : List ℕ) (i j : ℕ) → j < i → j < length ts → 1 ≤ earlier ts i (get_or ts j 0)
earlier-found ts i j l h =
    omega (
      arith,
      earlier_step ts j (get_or ts j 0) h,
      ap one (eq-eqb (get_or ts j 0) (get_or ts j 0) refl),
      earlier_mono ts (j + 1) i (get_or ts j 0) (omega arith),
    )

-- ─── `mark`: how many have the code ───

pub record Met (ts : List ℕ) (k m n : ℕ) : Type 0 where
  pub within : m ≤ length ts
  pub few : n ≤ m
  pub is : n ≡ earlier ts m k

pub met_start : (ts : List ℕ) (k : ℕ) → Met ts k 0 0
met_start ts k = record { within = omega arith; few = omega arith; is = refl }

module _ (ts : List ℕ) (k m n : ℕ) (w : Met ts k m n) where
  pub met-same : m < length ts → get_or ts m 0 ≡ k → Met ts k (m + 1) (n + 1)
  met-same h e = record { within = omega arith; few = omega (arith, w.few); is = omega (arith, w.is, earlier_step ts m k h, ap one (eq-eqb k (get_or ts m 0) (sym e))) }

  pub met-other : m < length ts → get_or ts m 0 ≢ k → Met ts k (m + 1) n
  met-other h e = record { within = omega arith; few = omega (arith, w.few); is = omega (arith, w.is, earlier_step ts m k h, ap one (ne_eqb k (get_or ts m 0) (λ f. e (sym f)))) }

  pub met_all : (c r : ℕ) → length ts ≤ m → r ≡ ceil n c → r ≡ size_of eqb c ts k
  met_all c r h e = rw (e, w.is, take_all m ts h)

-- ─── the outer pass: the codes still to come ───

-- k is not among `seen`
abbrev unseen : List ℕ → ℕ → Bool
unseen seen k = eqb 0 (count (eqb k) seen)

-- the codes of ts, each once, that are not among `seen`
abbrev left : List ℕ → List ℕ → List ℕ
left seen ts = keep (unseen seen) (firsts eqb ts)

unseen-more : (k j : ℕ) (seen : List ℕ) → (not (eqb k j) && unseen seen j) ≡ unseen (seen ++ k ∷ []) j
unseen-more k j seen = rw (count-append (eqb j) seen (k ∷ []), eq_sym eqb numbers_decide k j) (go (eqb j k) (count (eqb j) seen))
  where
    go : (z : Bool) (n : ℕ) → (not z && eqb 0 n) ≡ eqb 0 (n + (one z + 0))
    go true n = sym (ne_eqb 0 (n + (1 + 0)) (omega arith))
    go false n = rw (add-zero n)

left_step : (seen : List ℕ) (k : ℕ) (ts : List ℕ) → left seen (k ∷ ts) ≡ put_if (unseen seen k) k (left (seen ++ k ∷ []) ts)
left_step seen k ts = ap (put_if (unseen seen k) k)
    (keep-keep (unseen seen) (λ j. not (eqb k j)) (firsts eqb ts) ∙ keep_ext _ _ (firsts eqb ts) (λ j. unseen-more k j seen))

module _ (ts : List ℕ) (i : ℕ) (h : i < length ts) where
  left_at : left (take i ts) (drop i ts) ≡ put_if (unseen (take i ts) (get_or ts i 0)) (get_or ts i 0) (left (take (i + 1) ts) (drop (i + 1) ts))
  left_at = rw (add-one, drop-cons ts i 0 h, take-suc ts i 0 h) (left_step (take i ts) (get_or ts i 0) (drop (suc i) ts))

  left_new : earlier ts i (get_or ts i 0) ≡ 0 → left (take i ts) (drop i ts) ≡ get_or ts i 0 ∷ left (take (i + 1) ts) (drop (i + 1) ts)
  left_new e = left_at ∙ rw (eq-eqb 0 (earlier ts i (get_or ts i 0)) (sym e))

  left_old : 1 ≤ earlier ts i (get_or ts i 0) → left (take i ts) (drop i ts) ≡ left (take (i + 1) ts) (drop (i + 1) ts)
  left_old l = left_at ∙ rw (ne_eqb 0 (earlier ts i (get_or ts i 0)) (omega arith))

-- ─── the inner search ───

-- the code k is not among the first j of ts; at j it is found, or the search goes on, and at the end it comes for the first time
module _ (ts : List ℕ) (j k : ℕ) where
  pub searching_on : j < length ts → get_or ts j 0 ≢ k → earlier ts j k ≡ 0 → earlier ts (j + 1) k ≡ 0
  searching_on h n e = omega (arith, e, earlier_step ts j k h, ap one (ne_eqb k (get_or ts j 0) (λ f. n (sym f))))

  pub searched_new : length ts ≤ j → earlier ts j k ≡ 0 → count (eqb k) ts ≡ 0
  searched_new h e = rw (take_all j ts h) at e

  pub searched_old : j < length ts → get_or ts j 0 ≡ k → 1 ≤ count (eqb k) ts
  searched_old h e = rw (e, take_all (length ts) ts (le_refl _)) at (earlier-found ts (length ts) j h h)

-- ─── `label`: the batches counted ───

pub record Counted (c : ℕ) (ts : List ℕ) (i n : ℕ) : Type 0 where
  pub within : i ≤ length ts
  pub sum : n + total (size_of eqb c ts) (left (take i ts) (drop i ts)) ≡ need_of c ts

counted_start : (c : ℕ) (ts : List ℕ) → Counted c ts 0 0
counted_start c ts = record {
  within = omega arith;
  sum = zero-add _ ∙ ap (total (size_of eqb c ts)) (keep-true (firsts eqb ts) ∙ ap (firsts eqb) (sym (map_id ts)));
}

module _ (c : ℕ) (ts : List ℕ) (i n : ℕ) (k : Counted c ts i n) where
  counted_old : i < length ts → 1 ≤ earlier ts i (get_or ts i 0) → Counted c ts (i + 1) n
  counted_old h s = record { within = omega arith; sum = omega (arith, k.sum, ap (total (size_of eqb c ts)) (left_old ts i h s)) }

  counted_new : (r : ℕ) → i < length ts → earlier ts i (get_or ts i 0) ≡ 0 → r ≡ size_of eqb c ts (get_or ts i 0) → Counted c ts (i + 1) (n + r)
  counted_new r h s e = record { within = omega arith; sum = omega (arith, k.sum, ap (total (size_of eqb c ts)) (left_new ts i h s)) }

  pub counted-end : length ts ≤ i → n ≡ need_of c ts
  counted-end h = omega (arith, rw (drop_of_length-le ts h) at k.sum)

  pub counted-small : 1 ≤ c → n ≤ length ts
  counted-small h = omega (arith, k.sum, need_le_length (λ t. t) eqb numbers_decide c ts h)

-- ─── `mark`: the labels of one code ───

pub marked_start : (c first k : ℕ) (ts old : List ℕ) → Marked c first k ts old old 0
marked_start c first k ts old = record { size = refl; own = λ j l f. absurd (omega arith); other = λ j f. refl }

module _ (c first k : ℕ) (ts old new : List ℕ) (m : ℕ) (w : Marked c first k ts old new m) where
  pub marked-same : (r v : ℕ) → m < length old → get_or ts m 0 ≡ k → r ≡ earlier ts m k → v ≡ first + r / c → Marked c first k ts old (set new m v) (m + 1)
  marked-same r v h e q p = record {
    size = length-set new m v ∙ w.size;
    own = λ j l f. go j l f (dec_lt j m);
    other = λ j f. get_or-set_other new m j v 0 (λ p. f (ap (λ (i : ℕ). get_or ts i 0) p ∙ e)) ∙ w.other j f;
  }
    where
      go : (j : ℕ) → j < m + 1 → get_or ts j 0 ≡ k → Dec (j < m) → get_or (set new m v) j 0 ≡ first + earlier ts j k / c
      go j l f (yes b) = get_or-set_other new m j v 0 (omega arith) ∙ w.own j b f
      go j l f (no b) =
          let s : j ≡ m = omega arith in
          rw s (get_or-set_same new m v 0 (omega (arith, w.size)) ∙ p ∙ ap (λ (i : ℕ). first + i / c) q)

  pub marked_other : get_or ts m 0 ≢ k → Marked c first k ts old new (m + 1)
  marked_other n = record { size = w.size; own = λ j l f. go j l f (dec_lt j m); other = w.other }
    where
      go : (j : ℕ) → j < m + 1 → get_or ts j 0 ≡ k → Dec (j < m) → get_or new j 0 ≡ first + earlier ts j k / c
      go j l f (yes p) = w.own j p f
      go j l f (no p) = let s : j ≡ m = omega arith in absurd (n (rw s at f))

  pub marked-end : m ≤ length ts → length ts ≤ m → Marked c first k ts old new (length ts)
  marked-end h l = let e : m ≡ length ts = omega arith in rw e at w

-- ─── `label`: the labels ───

-- the number of the first batch of the code k, and the label of collection j
abbrev base_of : ℕ → List ℕ → ℕ → ℕ
base_of c ts k = base eqb (size_of eqb c ts) k (firsts eqb ts)

abbrev label_of : ℕ → List ℕ → ℕ → ℕ
label_of c ts j = base_of c ts (get_or ts j 0) + earlier ts j (get_or ts j 0) / c

labels_from-at : (first : ℕ → ℕ) (c : ℕ) (before ts : List ℕ) (j : ℕ) → j < length ts
    → get_or (labels_from eqb first c before ts) j 0 ≡ first (get_or ts j 0) + count (eqb (get_or ts j 0)) (before ++ take j ts) / c
labels_from-at first c before [] j h = absurd (omega arith)
labels_from-at first c before (t ∷ ts) zero h = rw (append-nil before)
labels_from-at first c before (t ∷ ts) (suc j) h = rw (← append_snoc before t (take j ts)) (labels_from-at first c (before ++ t ∷ []) ts j (omega arith))

length-labels_from : (first : ℕ → ℕ) (c : ℕ) (before ts : List ℕ) → length (labels_from eqb first c before ts) ≡ length ts
length-labels_from first c before [] = refl
length-labels_from first c before (t ∷ ts) = ap suc (length-labels_from first c (before ++ t ∷ []) ts)

pub labels_length : (c : ℕ) (ts : List ℕ) → length (labels_of c ts) ≡ length ts
labels_length c ts = length-labels_from (λ k. base eqb (size_of eqb c ts) k (firsts eqb ts)) c [] ts

pub record Labelled (c : ℕ) (ts out : List ℕ) (i n : ℕ) : Type 0 where
  pub counted : Counted c ts i n
  pub size : length out ≡ length ts
  pub next : (k : ℕ) → earlier ts i k ≡ 0 → base_of c ts k ≡ n + base eqb (size_of eqb c ts) k (left (take i ts) (drop i ts))
  pub done : (j : ℕ) → j < length ts → 1 ≤ earlier ts i (get_or ts j 0) → get_or out j 0 ≡ label_of c ts j

pub labelled_start : (c : ℕ) (ts out : List ℕ) → length out ≡ length ts → Labelled c ts out 0 0
labelled_start c ts out h = record {
  counted = counted_start c ts;
  size = h;
  next = λ k e. rw (keep-true (firsts eqb ts)) (sym (zero-add _));
  done = λ j l e. absurd (omega arith);
}

module _ (c : ℕ) (ts out : List ℕ) (i n : ℕ) (w : Labelled c ts out i n) where
  pub labelled_old : i < length ts → 1 ≤ earlier ts i (get_or ts i 0) → Labelled c ts out (i + 1) n
  labelled_old h seen = record { counted = counted_old c ts i n w.counted h seen; size = w.size; next = next; done = done }
    where
      next : (k : ℕ) → earlier ts (i + 1) k ≡ 0 → base_of c ts k ≡ n + base eqb (size_of eqb c ts) k (left (take (i + 1) ts) (drop (i + 1) ts))
      next k z = rw (left_old ts i h seen) at (w.next k (omega (arith, earlier_step ts i k h)))

      done : (m : ℕ) → m < length ts → 1 ≤ earlier ts (i + 1) (get_or ts m 0) → get_or out m 0 ≡ label_of c ts m
      done m b f = w.done m b (eqb-cases (λ z. earlier ts (i + 1) (get_or ts m 0) ≡ earlier ts i (get_or ts m 0) + one z → 1 ≤ earlier ts i (get_or ts m 0)) (get_or ts m 0) (get_or ts i 0)
          (λ g q. rw g seen) (λ g q. omega arith) (earlier_step ts i (get_or ts m 0) h))

  pub labelled_new : (new : List ℕ) → i < length ts → earlier ts i (get_or ts i 0) ≡ 0 → Marked c n (get_or ts i 0) ts out new (length ts)
      → Labelled c ts new (i + 1) (n + size_of eqb c ts (get_or ts i 0))
  labelled_new new h none m = record { counted = counted_new c ts i n w.counted _ h none refl; size = m.size ∙ w.size; next = next; done = done }
    where
      -- the first batch of a new code is the next free one
      base_new : base_of c ts (get_or ts i 0) ≡ n
      base_new = w.next (get_or ts i 0) none ∙ rw (left_new ts i h none, eq-eqb (get_or ts i 0) (get_or ts i 0) refl) (add-zero n)

      next : (k : ℕ) → earlier ts (i + 1) k ≡ 0
          → base_of c ts k ≡ n + size_of eqb c ts (get_or ts i 0) + base eqb (size_of eqb c ts) k (left (take (i + 1) ts) (drop (i + 1) ts))
      next k z =
          let o : k ≢ get_or ts i 0 = λ e. omega (arith, earlier_step ts i k h, ap one (eq-eqb k (get_or ts i 0) e)) in
          w.next k (omega (arith, earlier_step ts i k h)) ∙ rw (left_new ts i h none, ne_eqb k (get_or ts i 0) o) (omega arith)

      done : (m : ℕ) → m < length ts → 1 ≤ earlier ts (i + 1) (get_or ts m 0) → get_or new m 0 ≡ label_of c ts m
      done l b f = eqb-cases (λ z. earlier ts (i + 1) (get_or ts l 0) ≡ earlier ts i (get_or ts l 0) + one z → get_or new l 0 ≡ label_of c ts l) (get_or ts l 0) (get_or ts i 0)
          (λ e q. subst (λ (k : ℕ). get_or new l 0 ≡ base_of c ts k + earlier ts l k / c) (sym e) (rw base_new (m.own l b e)))
          (λ e q. m.other l e ∙ w.done l b (omega arith)) (earlier_step ts i (get_or ts l 0) h)

  pub labelled_end : length ts ≤ i → out ≡ labels_of c ts
  labelled_end h = ext_get_or 0 out (labels_of c ts) (w.size ∙ sym (length-labels_from _ c [] ts))
      (λ j l. let b : j < length ts = omega (arith, w.size) in w.done j b (earlier-found ts i j (omega arith) b)
      ∙ sym (labels_from-at (base_of c ts) c [] ts j b))
