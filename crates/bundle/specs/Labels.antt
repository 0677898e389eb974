-- THE LABELS: the number of each collection's batch, from 0, which is what the code writes. Not to be believed: no promise to a caller speaks of them.
-- That batch n of `bundle` is the collections with the label n, in list order, is `by_label`; that codes serve for terms is `batch_by_code`.
--   codes terms eq xs              a number for the terms of each collection: the place of the first one with equal terms
--   size_of eq c ks k               how many batches the terms k need, where the collections have the terms ks
--   labels eq c ks                 the label of each collection
--   pick n ls xs                   those of xs that have the label n, in order, where ls are the labels
--   up_from k n, up_to n             the n numbers from k on, in order; those below n
--   need_of c ts, labels_of c ts     how many batches are needed, and the labels, where all that is known of the collections is their codes ts
--   Marked c first k ts old new m  the collections of the code k among the first m have their labels, from the number `first` on; all else is as it was
use Rattle.std.specs.Prelude.{ℕ, zero, suc, ◌+◌, ◌/◌, ◌<◌, Bool, true, false, List, [], ◌∷◌, ◌++◌, map, ◌≡◌, eqb, length, take, get_or}
use Rattle.laws.specs.Lists.{put_if, count}
use Rattle.bundle.specs.Bundle.{firsts, ceil, need}

abbrev pub zero_if : Bool → ℕ → ℕ
zero_if true n = 0
zero_if false n = n

-- ─── codes ───

-- the first place at which k stands
abbrev pub first_at : {K : Type 0} → (K → K → Bool) → K → List K → ℕ
first_at eq k [] = 0
first_at eq k (j ∷ js) = zero_if (eq k j) (suc (first_at eq k js))

abbrev pub codes : {X K : Type 0} → (X → K) → (K → K → Bool) → List X → List ℕ
codes terms eq xs = map (λ x. first_at eq (terms x) (map terms xs)) xs

-- ─── labels ───

module _ {K : Type 0} (eq : K → K → Bool) where
  abbrev pub size_of : ℕ → List K → K → ℕ
  size_of c ks k = ceil (count (eq k) ks) c

  -- the number of the first batch of k: the batches of the terms js, in this order, up to k
  abbrev pub base : (K → ℕ) → K → List K → ℕ
  base size k [] = 0
  base size k (j ∷ js) = zero_if (eq k j) (size j + base size k js)

  -- the first batch of its terms, and one more for every c collections of these terms before it
  abbrev pub labels_from : (K → ℕ) → ℕ → List K → List K → List ℕ
  labels_from first c before [] = []
  labels_from first c before (k ∷ ks) = (first k + count (eq k) before / c) ∷ labels_from first c (before ++ k ∷ []) ks

  abbrev pub labels : ℕ → List K → List ℕ
  labels c ks = labels_from (λ k. base (size_of c ks) k (firsts eq ks)) c [] ks

abbrev pub pick : {X : Type 0} → ℕ → List ℕ → List X → List X
pick n [] xs = []
pick n (l ∷ ls) [] = []
pick n (l ∷ ls) (x ∷ xs) = put_if (eqb n l) x (pick n ls xs)

abbrev pub up_from : ℕ → ℕ → List ℕ
up_from k zero = []
up_from k (suc n) = k ∷ up_from (suc k) n

abbrev pub up_to : ℕ → List ℕ
up_to n = up_from 0 n

-- ─── by codes alone ───

abbrev pub need_of : ℕ → List ℕ → ℕ
need_of c ts = need (λ t. t) eqb c ts

abbrev pub labels_of : ℕ → List ℕ → List ℕ
labels_of c ts = labels eqb c ts

pub record Marked (c first k : ℕ) (ts old new : List ℕ) (m : ℕ) : Type 0 where
  pub size : length new ≡ length old
  pub own : (j : ℕ) → j < m → get_or ts j 0 ≡ k → get_or new j 0 ≡ first + count (eqb k) (take j ts) / c
  pub other : (j : ℕ) → (get_or ts j 0 ≡ k → ⊥) → get_or new j 0 ≡ get_or old j 0
