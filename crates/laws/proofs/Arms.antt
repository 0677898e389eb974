-- THE ARMS OF A MATCH ON A NUMBER, each of which has its entry of a table.
--   arm                the entry at the number that an arm is for is the entry at the number that is matched
--   NoneOf, others      of a number that no arm names: what each such number below n is, by a test that is computed
--   past                an entry past the end of a list
use Prim.Native.Nat.{ℕ, zero, suc, ◌<◌, ◌≤◌}
use native.Mathlib.Omega.{arith}
use mathlib.Core.Bool.{Bool, true, false, ◌||◌}
use mathlib.Core.List.{List, [], ◌∷◌}
use mathlib.Core.Path.{◌≡◌, refl, sym, ap}
use lib.Dec.{T, eqb, eqb→eq}
use lib.ListN.{length, get_or}
use Rattle.laws.proofs.Below.{every, below}

pub arm : {A : Type 0} (entry : ℕ → A) {x k : ℕ} → x ≡ k → entry k ≡ entry x
arm entry e = ap entry (sym e)

-- x is none of the numbers ks, the last arm's first
abbrev pub NoneOf : List ℕ → ℕ → Type 0
NoneOf [] x = Unit
NoneOf (k ∷ ks) x = NoneOf ks x × (x ≡ k → ⊥)

abbrev pub named : List ℕ → ℕ → Bool
named [] x = false
named (k ∷ ks) x = eqb x k || named ks x

not_named : (ks : List ℕ) (x : ℕ) (b : Bool) → NoneOf ks x → T (named ks x || b) → T b
not_named [] x b n t = t
not_named (k ∷ ks) x b n t = go (eqb x k) (λ u. n.1 (eqb→eq x k u)) (not_named ks x b n.0) t
  where
    go : (z : Bool) → (T z → ⊥) → (T (named ks x || b) → T b) → T ((z || named ks x) || b) → T b
    go true f g t = absurd (f tt)
    go false f g t = g t

pub others : (ks : List ℕ) (p : ℕ → Bool) (n x : ℕ) → T (every n (λ i. named ks i || p i)) → x < n → NoneOf ks x → T (p x)
others ks p n x t h m = not_named ks x (p x) m (below n (λ i. named ks i || p i) t x h)

pub past : {A : Type 0} (xs : List A) (n : ℕ) (d : A) → length xs ≤ n → d ≡ get_or xs n d
past [] n d h = refl
past (x ∷ xs) zero d h = absurd (omega arith)
past (x ∷ xs) (suc n) d h = past xs n d (omega arith)
