-- TESTS THAT DECIDE EQUALITY: what follows from `Decides`, and tests that do.
--   eq_cases                by cases on such a test, with what each case knows
--   eq_true, eq_false       the test of equals is true, of others false
--   eq_sym                  it is the same the other way round
--   numbers_decide          `eqb` decides equality of numbers
--   bytes_decide            `same` decides equality of byte strings
use mathlib.Core.Bool.{Bool, true, false}
use mathlib.Core.List.{[], ◌∷◌}
use mathlib.Core.Path.{◌≡◌, refl, sym}
use mathlib.Core.Logic.{◌≢◌}
use lib.Dec.{T, T_not, eqb, eqb→eq, eqb_refl}
use Rattle.laws.specs.Bytes.{Bytes, same}
use Rattle.laws.proofs.Tests.{bool_cases, and_both, T_true, same_test}
use Rattle.laws.proofs.Loops.{same_eq}
use Rattle.bundle.specs.Bundle.{Decides}

module _ {K : Type 0} (eq : K → K → Bool) (d : Decides eq) where
  eq_T : (a b : K) → a ≡ b → T (eq a b)
  eq_T a b e = rw e (d.self b)

  pub eq_cases : (P : Bool → Type 0) (a b : K) → (a ≡ b → P true) → (a ≢ b → P false) → P (eq a b)
  eq_cases P a b f g = bool_cases P (eq a b) (λ t. f (d.right a b t)) (λ t. g (λ e. T_not (eq a b) t (eq_T a b e)))

  pub eq_true : (a b : K) → a ≡ b → eq a b ≡ true
  eq_true a b e = T_true (eq a b) (eq_T a b e)

  pub eq_false : (a b : K) → a ≢ b → eq a b ≡ false
  eq_false a b n = eq_cases (λ z. z ≡ false) a b (λ e. absurd (n e)) (λ _. refl)

  pub eq_sym : (a b : K) → eq a b ≡ eq b a
  eq_sym a b = same_test (eq a b) (eq b a) (λ t. eq_T b a (sym (d.right a b t))) (λ t. eq_T a b (sym (d.right b a t)))

pub numbers_decide : Decides eqb
numbers_decide = record { right = eqb→eq; self = eqb_refl }

pub bytes_decide : Decides same
bytes_decide = record { right = same_eq; self = self }
  where
    self : (s : Bytes) → T (same s s)
    self [] = tt
    self (a ∷ s) = and_both (eqb a a) (same s s) (eqb_refl a) (self s)
