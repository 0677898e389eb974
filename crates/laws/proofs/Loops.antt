-- WHAT A LOOP OVER BYTES KEEPS, for each definition of Bytes: at the index i it stops, goes on, or is at the end. Then what the whole says of a part.
--   drop-step, drop-part                what is left at the index i: as its head and its rest, and as a part that is lent up to the end
--   all_end                             a loop that looks at every byte of a class
--   span-stop, span-go, span-end        a loop that counts the bytes of a class at the front
--   agree-stop, agree-go, agree-end     a loop that holds two byte strings against each other; agree-length, agree_differ: their lengths
--   all-at, all_take, all_drop          every byte of a class: at an index, of a part; all_append: of two byte strings; all-widen: of a wider class
--   all-span, span_le                   the front of a class: its bytes, its length; span-whole, span-part: where it is the whole, and where not
--   agree-take, agree-drop              two byte strings that agree do so in each part
--   same_eq                             the same bytes are equal
use Prim.Native.Nat.{ℕ, zero, suc, ◌+◌, ◌-◌, ◌<◌, ◌≤◌, zero-le, suc-le-suc}
use native.Mathlib.Nat.{add-zero, not-suc-le-zero, le_of_suc-le-suc}
use native.Mathlib.Numerals.{add-one}
use native.Mathlib.Omega.{arith}
use mathlib.Core.Bool.{Bool, true, false, ◌&&◌}
use mathlib.Core.List.{[], ◌∷◌, ◌++◌}
use mathlib.Core.Path.{◌≡◌, refl, ap, ap₂}
use lib.Dec.{T, eqb, eqb→eq}
use lib.ListN.{length, take, drop, get_or, length-drop, drop_of_length-le}
use lib.Seq.{drop-cons, take_all, take-length}
use Rattle.laws.specs.Bytes.{Bytes, all, span, agree, same}
use Rattle.laws.proofs.Tests.{bool_cases, and_l, and_r, and_both, T_true}

-- the head and the rest of what is left, at the code's `i + 1`
pub drop-step : (s : Bytes) (i : ℕ) → i < length s → drop i s ≡ get_or s i 0 ∷ drop (i + 1) s
drop-step s i h = rw (add-one, drop-cons s i 0)

-- what is left, as a part that is lent up to the end
pub drop-part : (i : ℕ) (s : Bytes) → take (length s - i) (drop i s) ≡ drop i s
drop-part i s = take_all (length s - i) (drop i s) (omega (arith, length-drop i s))

-- ─── all ───

pub all_end : (p : ℕ → Bool) (s : Bytes) (i : ℕ) → length s ≤ i → all p (drop i s) ≡ true
all_end p s i h = rw (drop_of_length-le s h)

-- ─── span ───

span_no : (p : ℕ → Bool) (c : ℕ) (r : Bytes) → p c ≡ false → span p (c ∷ r) ≡ 0
span_no p c r e = rw (e, span)

span_yes : (p : ℕ → Bool) (c : ℕ) (r : Bytes) → p c ≡ true → span p (c ∷ r) ≡ suc (span p r)
span_yes p c r e = rw (e, span)

module _ (p : ℕ → Bool) (s : Bytes) (i : ℕ) where
  pub span-stop : i < length s → p (get_or s i 0) ≡ false → i + span p (drop i s) ≡ i
  span-stop h e = rw (drop-step s i h, span_no p (get_or s i 0) (drop (i + 1) s) e) (add-zero i)

  pub span-go : i < length s → p (get_or s i 0) ≡ true → i + span p (drop i s) ≡ i + 1 + span p (drop (i + 1) s)
  span-go h e = rw (drop-step s i h, span_yes p (get_or s i 0) (drop (i + 1) s) e) (omega arith)

  pub span-end : length s ≤ i → i + span p (drop i s) ≡ i
  span-end h = rw (drop_of_length-le s h) (add-zero i)

-- ─── agree ───

module _ (r : ℕ → ℕ → Bool) (s t : Bytes) (i : ℕ) where
  pub agree-stop : i < length s → i < length t → r (get_or s i 0) (get_or t i 0) ≡ false → agree r (drop i s) (drop i t) ≡ false
  agree-stop h k e = rw (drop-step s i h, drop-step t i k, e)

  pub agree-go : i < length s → i < length t → r (get_or s i 0) (get_or t i 0) ≡ true → agree r (drop i s) (drop i t) ≡ agree r (drop (i + 1) s) (drop (i + 1) t)
  agree-go h k e = rw (drop-step s i h, drop-step t i k, e)

  pub agree-end : length s ≤ i → length t ≤ i → agree r (drop i s) (drop i t) ≡ true
  agree-end h k = rw (drop_of_length-le s h, drop_of_length-le t k)

pub agree-length : (r : ℕ → ℕ → Bool) (s t : Bytes) → T (agree r s t) → length s ≡ length t
agree-length r [] [] h = refl
agree-length r [] (b ∷ t) h = absurd h
agree-length r (a ∷ s) [] h = absurd h
agree-length r (a ∷ s) (b ∷ t) h = ap suc (agree-length r s t (and_r (r a b) (agree r s t) h))

-- where the lengths differ, they do not agree
pub agree_differ : (r : ℕ → ℕ → Bool) (s t : Bytes) → (length s ≡ length t → ⊥) → agree r s t ≡ false
agree_differ r s t d = bool_cases (λ z. (T z → length s ≡ length t) → z ≡ false) (agree r s t) (λ h f. absurd (d (f tt))) (λ h f. refl) (agree-length r s t)

-- ─── of a part ───

module _ (p : ℕ → Bool) where
  pub all-at : (s : Bytes) (i : ℕ) → T (all p s) → i < length s → T (p (get_or s i 0))
  all-at [] i t h = absurd (not-suc-le-zero h)
  all-at (c ∷ s) zero t h = and_l (p c) (all p s) t
  all-at (c ∷ s) (suc i) t h = all-at s i (and_r (p c) (all p s) t) (le_of_suc-le-suc h)

  pub all_take : (n : ℕ) (s : Bytes) → T (all p s) → T (all p (take n s))
  all_take zero s t = tt
  all_take (suc n) [] t = tt
  all_take (suc n) (c ∷ s) t = and_both (p c) (all p (take n s)) (and_l (p c) (all p s) t) (all_take n s (and_r (p c) (all p s) t))

  pub all_drop : (n : ℕ) (s : Bytes) → T (all p s) → T (all p (drop n s))
  all_drop zero s t = t
  all_drop (suc n) [] t = tt
  all_drop (suc n) (c ∷ s) t = all_drop n s (and_r (p c) (all p s) t)

  pub all_append : (s t : Bytes) → T (all p s) → T (all p t) → T (all p (s ++ t))
  all_append [] t a b = b
  all_append (c ∷ s) t a b = and_both (p c) (all p (s ++ t)) (and_l (p c) (all p s) a) (all_append s t (and_r (p c) (all p s) a) b)

  pub all-widen : (q : ℕ → Bool) → ((c : ℕ) → T (p c) → T (q c)) → (s : Bytes) → T (all p s) → T (all q s)
  all-widen q f [] t = tt
  all-widen q f (c ∷ s) t = and_both (q c) (all q s) (f c (and_l (p c) (all p s) t)) (all-widen q f s (and_r (p c) (all p s) t))

  -- the front of a class is of that class
  pub all-span : (s : Bytes) → T (all p (take (span p s) s))
  all-span [] = tt
  all-span (c ∷ s) = go (p c) refl (all-span s)
    where
      go : (z : Bool) → p c ≡ z → T (all p (take (span p s) s)) → T (all p (take (elim z [ true ↦ suc (span p s) | false ↦ 0 ]) (c ∷ s)))
      go true e h = rw e h
      go false e h = tt

  pub span_le : (s : Bytes) → span p s ≤ length s
  span_le [] = zero-le
  span_le (c ∷ s) = bool_cases (λ z. elim z [ true ↦ suc (span p s) | false ↦ 0 ] ≤ suc (length s)) (p c) (λ t. suc-le-suc (span_le s)) (λ t. zero-le)

  -- all bytes are of a class where the front of the class is the whole, and else not
  pub span-whole : (s : Bytes) → span p s ≡ length s → all p s ≡ true
  span-whole s e = T_true (all p s) (rw (e, take-length s) at (all-span s))

  pub span-part : (s : Bytes) → (span p s ≡ length s → ⊥) → all p s ≡ false
  span-part [] d = absurd (d refl)
  span-part (c ∷ s) d = go (p c) (λ k. span-part s (λ e. k (ap suc e))) d
    where
      go : (z : Bool) → ((suc (span p s) ≡ suc (length s) → ⊥) → all p s ≡ false) → (elim z [ true ↦ suc (span p s) | false ↦ 0 ] ≡ suc (length s) → ⊥) → (z && all p s) ≡ false
      go true f d = f d
      go false f d = refl

module _ (r : ℕ → ℕ → Bool) where
  pub agree-take : (n : ℕ) (s t : Bytes) → T (agree r s t) → T (agree r (take n s) (take n t))
  agree-take zero s t h = tt
  agree-take (suc n) [] [] h = tt
  agree-take (suc n) [] (b ∷ t) h = absurd h
  agree-take (suc n) (a ∷ s) [] h = absurd h
  agree-take (suc n) (a ∷ s) (b ∷ t) h =
      and_both (r a b) (agree r (take n s) (take n t)) (and_l (r a b) (agree r s t) h) (agree-take n s t (and_r (r a b) (agree r s t) h))

  pub agree-drop : (n : ℕ) (s t : Bytes) → T (agree r s t) → T (agree r (drop n s) (drop n t))
  agree-drop zero s t h = h
  agree-drop (suc n) [] [] h = tt
  agree-drop (suc n) [] (b ∷ t) h = absurd h
  agree-drop (suc n) (a ∷ s) [] h = absurd h
  agree-drop (suc n) (a ∷ s) (b ∷ t) h = agree-drop n s t (and_r (r a b) (agree r s t) h)

-- the same bytes are equal
pub same_eq : (s t : Bytes) → T (same s t) → s ≡ t
same_eq [] [] h = refl
same_eq [] (b ∷ t) h = absurd h
same_eq (a ∷ s) [] h = absurd h
same_eq (a ∷ s) (b ∷ t) h =
    ap₂ {C = Bytes} (λ (c : ℕ) (l : Bytes). c ∷ l) (eqb→eq a b (and_l (eqb a b) (same s t) h)) (same_eq s t (and_r (eqb a b) (same s t) h))
