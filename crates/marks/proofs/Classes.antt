-- WHAT A CLASS SAYS OF A BYTE, and each class by cases.
--   class_part                  where every byte is of a class, so is every byte of a part
--   class_span                  every byte is of a class where the run of the class is the whole
--   all_and_go                  a loop that goes through every byte takes one more at the index i
--   agree_zip                   two texts of one length agree where each pair of their bytes does
--   or_rest                     of two tests of which one holds, the second holds where the first fails
--   between_low, between_high   a byte from a to b is at least a, at most b
--   fits_all                    a text is of a class where each mark of its pattern is of a class whose marks stand for such bytes
--   letter-within               a byte of a run is in the letter set, by one computed test of the run
--   value-digit, value-capital, value_le   what a letter or digit is read as
use Prim.Native.Nat.{ℕ, ◌+◌, ◌-◌, ◌≤◌, ◌<◌}
use native.Mathlib.Omega.{arith}
use mathlib.Core.Bool.{Bool, true, false, ◌&&◌, ◌||◌}
use mathlib.Core.List.{[], ◌∷◌}
use mathlib.Core.Path.{◌≡◌, refl, sym, ap}
use lib.Dec.{T, eqb, leb}
use lib.ListN.{length, take, drop, get_or}
use borrow.Author.Tests.{leb-true}
use Rattle.std.specs.List.{list_all, zip}
use Rattle.laws.specs.Bytes.{Bytes, between, all, span, agree}
use Rattle.laws.proofs.Tests.{and_l, and_r, and_both, T_true, true-T, bool_cases, eqb-cases}
use Rattle.laws.proofs.Loops.{drop-step, all_take, all_drop, span-whole, span-part}
use Rattle.laws.proofs.Below.{every, within}
use Rattle.marks.specs.Marks.{digit, capital, letter, mark, fits, letter_value}

-- ─── of every byte ───

pub class_part : (p : ℕ → Bool) (s : Bytes) (n i : ℕ) → all p s ≡ true → all p (take n (drop i s)) ≡ true
class_part p s n i e = T_true (all p (take n (drop i s))) (all_take p n (drop i s) (all_drop p i s (true-T (all p s) e)))

pub class_span : (p : ℕ → Bool) (s : Bytes) → all p s ≡ eqb (span p s) (length s)
class_span p s = eqb-cases (λ z. all p s ≡ z) (span p s) (length s) (span-whole p s) (span-part p s)

-- a loop that goes through every byte, b being the answer for those before i
module _ (p : ℕ → Bool) (s : Bytes) (i : ℕ) where
  pub all_and_go : i < length s → (b : Bool) → b && all p (drop i s) ≡ (b && p (get_or s i 0)) && all p (drop (i + 1) s)
  all_and_go h true = rw (drop-step s i h)
  all_and_go h false = refl

-- two texts of one length, byte by byte
pub agree_zip : (r : ℕ → ℕ → Bool) (s t : Bytes) → length t ≡ length s → list_all (λ x. r x.0 x.1) (zip s t) ≡ agree r s t
agree_zip r [] [] e = refl
agree_zip r [] (b ∷ t) e = cc
agree_zip r (a ∷ s) [] e = cc
agree_zip r (a ∷ s) (b ∷ t) e = ap (λ (z : Bool). r a b && z) (agree_zip r s t cc)

pub or_rest : (a b : Bool) → a ≡ false → T (a || b) → T b
or_rest a b e t = rw e at t

-- ─── from a to b ───

module _ (a b c : ℕ) (e : between a b c ≡ true) where
  pub between_low : a ≤ c
  between_low = leb-true a c (T_true (leb a c) (and_l (leb a c) (leb c b) (true-T (between a b c) e)))

  pub between_high : c ≤ b
  between_high = leb-true c b (T_true (leb c b) (and_r (leb a c) (leb c b) (true-T (between a b c) e)))

-- ─── marks of a pattern ───

module _ (m q : ℕ → Bool) (f : (p c : ℕ) → T (m p) → T (mark p c) → T (q c)) where
  pub fits_all : (p s : Bytes) → T (all m p) → T (fits p s) → T (all q s)
  fits_all [] [] d t = tt
  fits_all [] (c ∷ s) d t = absurd t
  fits_all (k ∷ p) [] d t = absurd t
  fits_all (k ∷ p) (c ∷ s) d t =
      and_both (q c) (all q s) (f k c (and_l (m k) (all m p) d) (and_l (mark k c) (fits p s) t)) (fits_all p s (and_r (m k) (all m p) d) (and_r (mark k c) (fits p s) t))

-- ─── the letter set ───

pub letter-within : (a n c : ℕ) → a ≤ c → c < a + n → T (every n (λ k. letter (a + k))) → true ≡ letter c
letter-within a n c l h t = sym (T_true (letter c) (within a n letter t c l h))

-- ─── what a letter or digit is read as ───

module _ (c : ℕ) where
  pub value-digit : digit c ≡ true → letter_value c ≡ c - 48
  value-digit d = rw (d, letter_value)

  pub value-capital : digit c ≡ false → capital c ≡ true → letter_value c ≡ c - 55
  value-capital d k = rw (d, k, letter_value)

  pub value_le : letter_value c ≤ c
  value_le = bool_cases (λ z. elim z [ true ↦ c - 48 | false ↦ elim (capital c) [ true ↦ c - 55 | false ↦ c - 87 ] ] ≤ c) (digit c) (λ t. omega arith)
      (λ t. bool_cases (λ z. elim z [ true ↦ c - 55 | false ↦ c - 87 ] ≤ c) (capital c) (λ t. omega arith) (λ t. omega arith))
