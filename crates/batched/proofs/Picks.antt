-- THE COLLECTIONS OF A LABEL, one by one.
--   pick-go, pick_end          what is left of them at the index i: as its head and its rest; nothing
--   pick-count                 how many there are
--   pick_first                 the first of them stands at the first place of the label
--   first-there                there is such a place where one has the label
--   Met k ls i met             of the first i labels, `met` are k; met-same, met-other: a loop that counts
--   Summed .. i cents          of the first i collections, those of the label have so many cents; summed-same, summed-other: a loop that adds
--   written-same, written-other, written-end    what is left to write, from the collection i on: its own bytes and the rest; the rest; nothing
use Prim.Native.Nat.{ℕ, suc, ◌+◌, ◌*◌, ◌≤◌, ◌<◌}
use native.Mathlib.Nat.{le_of_suc-le-suc}
use native.Mathlib.Numerals.{add-one}
use native.Mathlib.Omega.{arith}
use mathlib.Core.Bool.{Bool, true, false, not}
use mathlib.Core.List.{List, [], ◌∷◌, ◌++◌}
use mathlib.Core.Path.{◌≡◌, refl, ap, ◌∙◌}
use borrow.Author.Tests.{eq-eqb, ne_eqb}
use lib.Dec.{eqb}
use lib.ListN.{length, drop, get_or, drop_of_length-le}
use lib.Seq.{drop-cons}
use Rattle.laws.specs.Bytes.{span}
use Rattle.laws.specs.Lists.{one, put_if, total, count, gather}
use Rattle.profile.specs.Limits.{most_cents}
use Rattle.bundle.specs.Labels.{pick}
use Rattle.collections.specs.Listed.{Collection}
use Rattle.written.specs.Written.{no_collection}
use Rattle.written.specs.Pieces.{transaction_bytes}

module _ {X : Type 0} where
  module _ (k : ℕ) (d : X) where
    pub pick-go : (ls : List ℕ) (xs : List X) (i : ℕ) → length xs ≡ length ls → i < length ls
        → pick k (drop i ls) (drop i xs) ≡ put_if (eqb k (get_or ls i 0)) (get_or xs i d) (pick k (drop (i + 1) ls) (drop (i + 1) xs))
    pick-go ls xs i e h = rw (add-one i, drop-cons ls i 0 h, drop-cons xs i d (omega arith))

    pub pick_end : (ls : List ℕ) (xs : List X) (i : ℕ) → length ls ≤ i → pick k (drop i ls) (drop i xs) ≡ []
    pick_end ls xs i h = rw (drop_of_length-le ls h)

    pub pick-count : (ls : List ℕ) (xs : List X) → length xs ≡ length ls → length (pick k ls xs) ≡ count (eqb k) ls
    pick-count [] xs e = refl
    pick-count (l ∷ ls) [] e = absurd (omega arith)
    pick-count (l ∷ ls) (x ∷ xs) e = go (eqb k l) (pick-count ls xs (omega arith))
      where
        go : (z : Bool) → length (pick k ls xs) ≡ count (eqb k) ls → length (put_if z x (pick k ls xs)) ≡ one z + count (eqb k) ls
        go true h = omega arith
        go false h = omega arith

    pub pick_first : (ls : List ℕ) (xs : List X) → length xs ≡ length ls → span (λ l. not (eqb k l)) ls < length ls
        → pick k ls xs ≡ get_or xs (span (λ l. not (eqb k l)) ls) d ∷ drop 1 (pick k ls xs)
    pick_first [] xs e h = absurd (omega arith)
    pick_first (l ∷ ls) [] e h = absurd (omega arith)
    pick_first (l ∷ ls) (x ∷ xs) e h = go (eqb k l) h (pick_first ls xs (omega arith))
      where
        go : (z : Bool) → elim (not z) [ true ↦ suc (span (λ l. not (eqb k l)) ls) | false ↦ 0 ] < suc (length ls)
            → (span (λ l. not (eqb k l)) ls < length ls → pick k ls xs ≡ get_or xs (span (λ l. not (eqb k l)) ls) d ∷ drop 1 (pick k ls xs))
            → put_if z x (pick k ls xs) ≡ get_or (x ∷ xs) (elim (not z) [ true ↦ suc (span (λ l. not (eqb k l)) ls) | false ↦ 0 ]) d ∷ drop 1 (put_if z x (pick k ls xs))
        go true h ih = refl
        go false h ih = ih (le_of_suc-le-suc h)

pub first-there : (k : ℕ) (ls : List ℕ) → 1 ≤ count (eqb k) ls → span (λ l. not (eqb k l)) ls < length ls
first-there k [] h = absurd (omega arith)
first-there k (l ∷ ls) h = go (eqb k l) h (first-there k ls)
  where
    go : (z : Bool) → 1 ≤ one z + count (eqb k) ls → (1 ≤ count (eqb k) ls → span (λ l. not (eqb k l)) ls < length ls)
        → elim (not z) [ true ↦ suc (span (λ l. not (eqb k l)) ls) | false ↦ 0 ] < suc (length ls)
    go true h ih = omega arith
    go false h ih = let g : span (λ l. not (eqb k l)) ls < length ls = ih (omega arith) in omega arith

-- ─── a loop over the labels ───

-- of the first i labels, `met` are k
pub record Met (k : ℕ) (ls : List ℕ) (i met : ℕ) : Type 0 where
  pub within : i ≤ length ls
  pub few : met ≤ i
  pub is : met + count (eqb k) (drop i ls) ≡ count (eqb k) ls

module _ (k : ℕ) (ls : List ℕ) (i met : ℕ) (m : Met k ls i met) where
  here : i < length ls → count (eqb k) (drop i ls) ≡ one (eqb k (get_or ls i 0)) + count (eqb k) (drop (i + 1) ls)
  here h = rw (add-one i, drop-cons ls i 0 h)

  pub met-same : i < length ls → k ≡ get_or ls i 0 → Met k ls (i + 1) (met + 1)
  met-same h e = record { within = omega arith; few = omega (arith, m.few); is = omega (arith, m.is, here h, ap one (eq-eqb k (get_or ls i 0) e)) }

  pub met-other : i < length ls → (k ≡ get_or ls i 0 → ⊥) → Met k ls (i + 1) met
  met-other h e = record { within = omega arith; few = omega (arith, m.few); is = omega (arith, m.is, here h, ap one (ne_eqb k (get_or ls i 0) e)) }

-- ─── a loop over the collections ───

module _ (xs : List Collection) (labels : List ℕ) (k : ℕ) where
  -- of the first i collections, those of the label have so many cents
  pub record Summed (i cents : ℕ) : Type 0 where
    pub few : cents ≤ most_cents * i
    pub is : cents + total (λ x. x.cents) (pick k (drop i labels) (drop i xs)) ≡ total (λ x. x.cents) (pick k labels xs)

  pub written-end : (i : ℕ) → length labels ≤ i → gather transaction_bytes (pick k (drop i labels) (drop i xs)) ≡ []
  written-end i h = ap (gather transaction_bytes) (pick_end k no_collection labels xs i h)

  module _ (q : length xs ≡ length labels) (i : ℕ) (h : i < length labels) where
    -- what is left of them from the collection i on, where it has the label, and where it has another
    left-same : k ≡ get_or labels i 0 → pick k (drop i labels) (drop i xs) ≡ get_or xs i no_collection ∷ pick k (drop (i + 1) labels) (drop (i + 1) xs)
    left-same e = pick-go k no_collection labels xs i q h ∙ rw (eq-eqb k (get_or labels i 0) e)

    left-other : (k ≡ get_or labels i 0 → ⊥) → pick k (drop i labels) (drop i xs) ≡ pick k (drop (i + 1) labels) (drop (i + 1) xs)
    left-other e = pick-go k no_collection labels xs i q h ∙ rw (ne_eqb k (get_or labels i 0) e)

    module _ (cents : ℕ) (m : Summed i cents) where
      pub summed-same : (v : ℕ) → k ≡ get_or labels i 0 → v ≡ (get_or xs i no_collection).cents → v ≤ most_cents → Summed (i + 1) (cents + v)
      summed-same v e w l = record {
        few = omega (arith, m.few);
        is = omega (arith, m.is, w, ap (total (λ (x : Collection). x.cents)) (left-same e));
      }

      pub summed-other : (k ≡ get_or labels i 0 → ⊥) → Summed (i + 1) cents
      summed-other e = record { few = omega (arith, m.few); is = omega (arith, m.is, ap (total (λ (x : Collection). x.cents)) (left-other e)) }

    -- what is left to write, from the collection i on
    pub written-same : k ≡ get_or labels i 0
        → gather transaction_bytes (pick k (drop i labels) (drop i xs)) ≡ transaction_bytes (get_or xs i no_collection) ++ gather transaction_bytes (pick k (drop (i + 1) labels) (drop (i + 1) xs))
    written-same e = ap (gather transaction_bytes) (left-same e)

    pub written-other : (k ≡ get_or labels i 0 → ⊥) → gather transaction_bytes (pick k (drop i labels) (drop i xs)) ≡ gather transaction_bytes (pick k (drop (i + 1) labels) (drop (i + 1) xs))
    written-other e = ap (gather transaction_bytes) (left-other e)
