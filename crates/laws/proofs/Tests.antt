-- WHAT A TEST SAYS, and going by cases on one.
--   bool_cases, eqb-cases, ltb-cases   by cases on a test, with what each case knows
--   eqb_comm                a test for equality either way round
--   and_l, and_r, and_both  a conjunction, and its two sides
--   T_true, true-T          `T b` and `b ≡ true` say the same; T_false: so do `T (not b)` and `b ≡ false`
--   same_test               two tests that imply one another are equal
--   max_cases               the larger of two numbers is one of them
use Prim.Native.Nat.{ℕ, ◌≤◌, ◌<◌, max}
use native.Mathlib.Nat.{max-eq_left, max-eq_right}
use native.Mathlib.Decide.{dec_le}
use native.Mathlib.Omega.{arith}
use mathlib.Core.Bool.{Bool, true, false, not, ◌&&◌}
use mathlib.Core.Path.{◌≡◌, refl, sym, subst, subst⁻¹}
use mathlib.Core.Logic.{◌≢◌}
use lib.Dec.{T, T_not, eqb, ltb, eqb→eq, eqb_refl, ltb→lt, nltb→le}
use borrow.Author.Tests.{eq-eqb, ne_eqb}

pub bool_cases : (P : Bool → Type 0) (z : Bool) → (T z → P true) → (T (not z) → P false) → P z
bool_cases P true f g = f tt
bool_cases P false f g = g tt

eqb_neq : (a b : ℕ) → T (not (eqb a b)) → a ≢ b
eqb_neq a b t e = T_not (eqb a b) t (subst (λ (c : ℕ). T (eqb a c)) e (eqb_refl a))

pub eqb-cases : (P : Bool → Type 0) (a b : ℕ) → (a ≡ b → P true) → (a ≢ b → P false) → P (eqb a b)
eqb-cases P a b f g = bool_cases P (eqb a b) (λ t. f (eqb→eq a b t)) (λ t. g (eqb_neq a b t))

pub ltb-cases : (P : Bool → Type 0) (a b : ℕ) → (a < b → P true) → (b ≤ a → P false) → P (ltb a b)
ltb-cases P a b f g = bool_cases P (ltb a b) (λ t. f (ltb→lt a b t)) (λ t. g (nltb→le a b t))

pub eqb_comm : (a b : ℕ) → eqb a b ≡ eqb b a
eqb_comm a b = eqb-cases (λ z. z ≡ eqb b a) a b (λ e. sym (eq-eqb b a (sym e))) (λ n. sym (ne_eqb b a (λ e. n (sym e))))

pub and_l : (a b : Bool) → T (a && b) → T a
and_l true b t = tt
and_l false b t = t

pub and_r : (a b : Bool) → T (a && b) → T b
and_r true b t = t
and_r false b t = absurd t

pub and_both : (a b : Bool) → T a → T b → T (a && b)
and_both true b s t = t
and_both false b s t = s

pub T_true : (b : Bool) → T b → b ≡ true
T_true true t = refl
T_true false t = absurd t

pub true-T : (b : Bool) → b ≡ true → T b
true-T b e = subst⁻¹ (λ (z : Bool). T z) e tt

pub T_false : (b : Bool) → T (not b) → b ≡ false
T_false true t = absurd t
T_false false t = refl

pub same_test : (a b : Bool) → (T a → T b) → (T b → T a) → a ≡ b
same_test true true f g = refl
same_test true false f g = absurd (f tt)
same_test false true f g = absurd (g tt)
same_test false false f g = refl

pub max_cases : (P : ℕ → Type 0) (n m : ℕ) → (m ≤ n → P n) → (n ≤ m → P m) → P (max n m)
max_cases P n m f g = go (dec_le m n)
  where
    go : Dec (m ≤ n) → P (max n m)
    go (yes h) = rw (max-eq_left h) (f h)
    go (no h) = let k : n ≤ m = omega arith in rw (max-eq_right k) (g k)
