-- A RULE OF EVERY NUMBER BELOW A BOUND, or of each of a list, proved by one test that is computed.
--   every n p        p holds of each number below n
--   below n p t c h  so it holds of c
--   within a n p     the same of each number from a on, n of them
--   each p xs, of-each   p holds of each of xs; so what p says holds of each
use Prim.Native.Nat.{ℕ, zero, suc, ◌+◌, ◌-◌, ◌<◌, ◌≤◌}
use native.Mathlib.Nat.{not-suc-le-zero}
use native.Mathlib.Decide.{dec_lt}
use native.Mathlib.Omega.{arith}
use mathlib.Core.Bool.{Bool, true, ◌&&◌}
use mathlib.Core.List.{List, [], ◌∷◌}
use mathlib.Core.Path.{◌≡◌, subst}
use lib.Dec.{T}
use Rattle.laws.specs.Lists.{All}
use Rattle.laws.proofs.Tests.{and_l, and_r}

abbrev pub every : ℕ → (ℕ → Bool) → Bool
every zero p = true
every (suc n) p = p n && every n p

pub below : (n : ℕ) (p : ℕ → Bool) → T (every n p) → (c : ℕ) → c < n → T (p c)
below zero p t c h = absurd (not-suc-le-zero h)
below (suc n) p t c h = go (dec_lt c n) (λ k. below n p (and_r (p n) (every n p) t) c k)
  where
    go : Dec (c < n) → (c < n → T (p c)) → T (p c)
    go (yes k) f = f k
    go (no k) f = let e : n ≡ c = omega arith in subst (λ (m : ℕ). T (p m)) e (and_l (p n) (every n p) t)

pub within : (a n : ℕ) (p : ℕ → Bool) → T (every n (λ k. p (a + k))) → (c : ℕ) → a ≤ c → c < a + n → T (p c)
within a n p t c l h = let e : a + (c - a) ≡ c = omega arith in subst (λ (m : ℕ). T (p m)) e (below n (λ k. p (a + k)) t (c - a) (omega arith))

module _ {A : Type 0} (p : A → Bool) where
  abbrev pub each : List A → Bool
  each [] = true
  each (x ∷ xs) = p x && each xs

  pub of-each : (P : A → Type 0) → ((x : A) → T (p x) → P x) → (xs : List A) → T (each xs) → All P xs
  of-each P f [] t = tt
  of-each P f (x ∷ xs) t = (f x (and_l (p x) (each xs) t), of-each P f xs (and_r (p x) (each xs) t))
