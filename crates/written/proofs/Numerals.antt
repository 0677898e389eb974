-- WRITTEN NUMBERS AND WORDS ARE GOOD TEXTS, and state what was written.
--   count-good       the count n, below 10 to the 15th
--   sum-good         the sum of n cents, below 10 to the 17th
--   amount-good      the amount of n cents, from 1 to the most
--   batch_id_good    a batch's id
--   scheme-good, sequence-good    the words of a scheme and of a sequence
--   decimal-length, euros-length  how long a number below a power of ten is
use Prim.Native.Nat.{ℕ, zero, suc, ◌+◌, ◌-◌, ◌*◌, ◌/◌, ◌%◌, ◌^◌, ◌≤◌, ◌<◌}
use native.Mathlib.Nat.{mod-lt, mod-eq_of_lt, div-add-mod', div-lt_iff_lt-mul, div-div-eq-div-mul, pow-suc}
use native.Mathlib.Omega.{arith}
use mathlib.Core.Bool.{Bool, true, false}
use mathlib.Core.List.{[], ◌∷◌, ◌++◌}
use mathlib.Core.Path.{◌≡◌, refl, ap, sym, ◌∙◌}
use lib.Dec.{T, eqb}
use lib.ListN.{length, take, drop, length-append}
use lib.Seq.{take_at, drop_at}
use borrow.Author.Tests.{lt-ltb, ne_eqb}
use Rattle.std.specs.Prelude.{Ok}
use Rattle.laws.specs.Bytes.{Bytes, all, span}
use Rattle.laws.proofs.Tests.{true-T, and_l, and_r, T_true}
use Rattle.marks.proofs.Classes.{letter-within}
use Rattle.marks.specs.Marks.{letter, digit, value, value_from}
use Rattle.profile.specs.Limits.{most_cents}
use Rattle.text.specs.Rules.{count, hundredths, decimals, in_euros, cents, sum, amount, identifier, scheme, sequence}
use Rattle.text.proofs.Musts.{between_in}
use Rattle.put.specs.Numerals.{last_digit, decimal_of, decimal, euros, batch_id}
use Rattle.written.specs.Written.{scheme_word, sequence_word}
use Rattle.written.proofs.Clean.{decimal-cases, decimal-all}

-- ─── digits ───

digit-is : (n : ℕ) → digit (last_digit n) ≡ true
digit-is n = let h : n % 10 < 10 = mod-lt n {m = 10} (omega arith) in between_in 48 57 (48 + n % 10) (omega arith) (omega arith)

decimal-digits : (most n : ℕ) → T (all digit (decimal_of most n))
decimal-digits = decimal-all digit (λ n. true-T (digit (last_digit n)) (digit-is n))

value-append : (v : ℕ) (s t : Bytes) → value_from v (s ++ t) ≡ value_from (value_from v s) t
value-append v [] t = refl
value-append v (c ∷ s) t = value-append (v * 10 + (c - 48)) s t

fewer : (n k : ℕ) → n < 10 ^ suc k → n / 10 < 10 ^ k
fewer n k h = (div-lt_iff_lt-mul {k = 10} {x = n} {y = 10 ^ k} (omega arith)).1 (rw (pow-suc 10 k) at h)

decimal-value : (most n : ℕ) → n < 10 ^ most → value (decimal_of most n) ≡ n
unfolding decimal_of
decimal-value zero n h = omega arith
decimal-value (suc most) n h =
    decimal-cases (λ s. value s ≡ n) most n (λ l. omega (arith, mod-eq_of_lt {n = n} {m = 10} l))
    (λ l. value-append 0 (decimal_of most (n / 10)) (last_digit n ∷ []) ∙ rw (decimal-value most (n / 10) (fewer n most h)) (omega (arith, div-add-mod' n 10)))

decimal-some : (most n : ℕ) → 1 ≤ length (decimal_of (suc most) n)
decimal-some most n = decimal-cases (λ s. 1 ≤ length s) most n (λ h. omega arith) (λ h. omega (arith, length-append (decimal_of most (n / 10)) (last_digit n ∷ [])))

decimal-few : (most k n : ℕ) → n < 10 ^ suc k → length (decimal_of most n) ≤ suc k
unfolding decimal_of
decimal-few zero k n h = omega arith
decimal-few (suc most) zero n h = rw (lt-ltb n 10 h, decimal_of) (omega arith)
decimal-few (suc most) (suc k) n h =
    decimal-cases (λ s. length s ≤ suc (suc k)) most n (λ l. omega arith)
    (λ l. omega (arith, length-append (decimal_of most (n / 10)) (last_digit n ∷ []), decimal-few most k (n / 10) (fewer n (suc k) h)))

-- ─── a count ───

pub count-good : (n : ℕ) → n < 10 ^ 15 → count (decimal n) ≡ Ok n
count-good n h =
    rw (between_in 1 15 (length (decimal n)) (decimal-some 19 n) (decimal-few 20 14 n h), T_true (all digit (decimal n)) (decimal-digits 20 n), decimal-value 20 n (omega arith))

-- ─── sums and amounts: 46 is the point ───

abbrev tail : ℕ → Bytes
tail n = 46 ∷ last_digit (n / 10) ∷ last_digit n ∷ []

span_on : (p : ℕ → Bool) (c : ℕ) (s : Bytes) → p c ≡ true → span p (c ∷ s) ≡ suc (span p s)
span_on p c s e = rw (e, span)

span-front : (s t : Bytes) → T (all digit s) → span digit (s ++ (46 ∷ t)) ≡ length s
span-front [] t a = refl
span-front (c ∷ s) t a =
    rw (span_on digit c (s ++ (46 ∷ t)) (T_true (digit c) (and_l (digit c) (all digit s) a))) (ap suc (span-front s t (and_r (digit c) (all digit s) a)))

module _ (n : ℕ) where
  euros-span : span digit (euros n) ≡ length (decimal (n / 100))
  euros-span = span-front (decimal (n / 100)) (last_digit (n / 10) ∷ last_digit n ∷ []) (decimal-digits 20 (n / 100))

  euros-front : take (span digit (euros n)) (euros n) ≡ decimal (n / 100)
  euros-front = take_at (decimal (n / 100)) (tail n) (span digit (euros n)) (sym euros-span)

  euros-rest : drop (span digit (euros n)) (euros n) ≡ tail n
  euros-rest = drop_at (decimal (n / 100)) (tail n) (span digit (euros n)) (sym euros-span)

  tail-decimals : decimals (tail n) ≡ true
  tail-decimals = rw (digit-is (n / 10), digit-is n)

  tail-hundredths : n / 100 * 100 + hundredths (tail n) ≡ n
  tail-hundredths = omega (arith, div-add-mod' n 10, div-add-mod' (n / 10) 10, div-div-eq-div-mul n 10 10)

  whole : (k : ℕ) → n < 10 ^ k * 100 → n / 100 < 10 ^ k
  whole k h = (div-lt_iff_lt-mul {k = 100} {x = n} {y = 10 ^ k} (omega arith)).1 h

  euros-cents : n / 100 < 10 ^ 20 → cents (euros n) ≡ n
  euros-cents h = rw (euros-front, euros-rest, decimal-value 20 (n / 100) h) tail-hundredths

  euros-of : (k : ℕ) → length (decimal (n / 100)) ≤ k → in_euros k (euros n) ≡ true
  euros-of k h = rw (euros-rest, euros-span, between_in 1 k (length (decimal (n / 100))) (decimal-some 19 (n / 100)) h) tail-decimals

  pub sum-good : n < 10 ^ 17 → sum (euros n) ≡ Ok n
  sum-good h = rw (euros-of 15 (decimal-few 20 14 (n / 100) (whole 15 h)), euros-cents (whole 20 (omega arith)))

  pub amount-good : 1 ≤ n → n ≤ most_cents → amount (euros n) ≡ Ok n
  amount-good l h = rw (euros-of 9 (decimal-few 20 8 (n / 100) (whole 9 (omega arith))), euros-cents (whole 20 (omega arith)), between_in 1 most_cents n l h)

  pub euros-length : (k : ℕ) → n < 10 ^ suc k * 100 → length (euros n) ≤ k + 4
  euros-length k h = omega (arith, length-append (decimal (n / 100)) (tail n), decimal-few 20 k (n / 100) (whole (suc k) h))

pub decimal-length : (n k : ℕ) → n < 10 ^ suc k → length (decimal n) ≤ suc k
decimal-length n k = decimal-few 20 k n

-- ─── words ───

digit-letter : (n : ℕ) → letter (last_digit n) ≡ true
digit-letter n = let h : n % 10 < 10 = mod-lt n {m = 10} (omega arith) in sym (letter-within 48 10 (48 + n % 10) (omega arith) (omega arith) tt)

-- 47 is `/`
digit_slash : (n : ℕ) → eqb 47 (last_digit n) ≡ false
digit_slash n = ne_eqb 47 (48 + n % 10) (λ e. omega arith)

pub batch_id_good : (n : ℕ) → identifier (batch_id n) ≡ Ok 0
batch_id_good n = rw (digit-letter (n / 100), digit-letter (n / 10), digit-letter n, digit_slash (n / 100), digit_slash (n / 10), digit_slash n)

pub scheme-good : (n : ℕ) → n ≤ 1 → scheme (scheme_word n) ≡ Ok n
scheme-good zero h = refl
scheme-good (suc zero) h = refl
scheme-good (suc (suc n)) h = absurd (omega arith)

pub sequence-good : (n : ℕ) → n ≤ 3 → sequence (sequence_word n) ≡ Ok n
sequence-good zero h = refl
sequence-good (suc zero) h = refl
sequence-good (suc (suc zero)) h = refl
sequence-good (suc (suc (suc zero))) h = refl
sequence-good (suc (suc (suc (suc n)))) h = absurd (omega arith)
