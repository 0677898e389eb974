-- EACH ONCE, IN ORDER OF FIRST APPEARANCE: the laws of `firsts`.
--   firsts-once   what stands in a list stands once among its firsts, and nothing else does
--   spread        a sum over terms of how often each is among some labels is a sum over labels of how often each is among the terms
use Prim.Native.Nat.{min}
use native.Mathlib.Omega.{arith}
use mathlib.Core.Bool.{Bool, false, not, ◌&&◌, not-and_self, and-false}
use mathlib.Core.List.{List, [], ◌∷◌}
use mathlib.Core.Path.{◌≡◌, refl, ap, sym, ◌∙◌}
use mathlib.Core.Logic.{◌≢◌}
use Rattle.laws.specs.Lists.{one, total, count, keep}
use Rattle.laws.proofs.Counts.{total_plus, total-zero, count_ext, count-keep}
use Rattle.bundle.specs.Bundle.{firsts, Decides}
use Rattle.bundle.proofs.Equality.{eq_cases, eq_true, eq_false, eq_sym}

module _ {K : Type 0} (eq : K → K → Bool) (d : Decides eq) where
  -- keeping those other than j: none equal to j is left, and all others are
  gone : (j k i : K) → k ≡ j → (not (eq j i) && eq k i) ≡ false
  gone j k i e = rw e (not-and_self (eq j i))

  stays : (j k i : K) → k ≢ j → (not (eq j i) && eq k i) ≡ eq k i
  stays j k i n = eq_cases eq d (λ z. (not (eq j i) && z) ≡ z) k i (λ e. rw (eq_false eq d j i (λ f. n (e ∙ sym f)))) (λ _. and-false (not (eq j i)))

  pub firsts-once : (k : K) (ks : List K) → count (eq k) (firsts eq ks) ≡ min 1 (count (eq k) ks)
  firsts-once k [] = refl
  firsts-once k (j ∷ ks) = eq_cases eq d (λ _. count (eq k) (firsts eq (j ∷ ks)) ≡ min 1 (count (eq k) (j ∷ ks))) k j found (other (firsts-once k ks))
    where
      rest : List K
      rest = firsts eq ks

      kept : count (eq k) (keep (λ i. not (eq j i)) rest) ≡ count (λ i. not (eq j i) && eq k i) rest
      kept = count-keep (eq k) (λ i. not (eq j i)) rest

      found : k ≡ j → count (eq k) (firsts eq (j ∷ ks)) ≡ min 1 (count (eq k) (j ∷ ks))
      found e = omega (arith, ap one (eq_true eq d k j e), kept, count_ext (λ i. not (eq j i) && eq k i) (λ i. false) rest (λ i. gone j k i e), total-zero rest)

      other : count (eq k) rest ≡ min 1 (count (eq k) ks) → k ≢ j → count (eq k) (firsts eq (j ∷ ks)) ≡ min 1 (count (eq k) (j ∷ ks))
      other ih n = omega (arith, ap one (eq_false eq d k j n), kept, count_ext (λ i. not (eq j i) && eq k i) (eq k) rest (λ i. stays j k i n))

  pub spread : (ks ls : List K) → total (λ k. count (eq k) ls) ks ≡ total (λ l. count (eq l) ks) ls
  spread ks [] = total-zero ks
  spread ks (l ∷ ls) = omega (arith, total_plus (λ k. one (eq k l)) (λ k. count (eq k) ls) ks, spread ks ls, count_ext (λ k. eq k l) (eq l) ks (λ k. eq_sym eq d k l))
