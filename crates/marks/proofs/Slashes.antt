-- A LOOP THAT LOOKS FOR SLASHES, with the byte before at hand: 47 is `/`.
--   joined b s       what the loop still answers where the byte b stands before s
--   joined-slashed   before the whole, with a slash as the byte before, it is `slashed`
use Prim.Native.Nat.{ℕ, suc, ◌-◌, ◌≤◌}
use native.Mathlib.Nat.{not-suc-le-zero}
use native.Mathlib.Omega.{arith}
use mathlib.Core.Bool.{Bool, true, false, ◌&&◌, ◌||◌}
use mathlib.Core.List.{[], ◌∷◌}
use mathlib.Core.Path.{◌≡◌, refl}
use lib.Dec.{eqb}
use lib.ListN.{length, get_or}
use Rattle.laws.specs.Bytes.{Bytes}
use Rattle.marks.specs.Marks.{slashed, twice}

abbrev pub joined : ℕ → Bytes → Bool
joined b [] = eqb 47 b
joined b (c ∷ s) = (eqb 47 b && eqb 47 c) || joined c s

last-only : (a x : Bool) → (a || x) ≡ (a || (x || ((x && false) || false)))
last-only true x = refl
last-only false true = refl
last-only false false = refl

last-first : (a p l t : Bool) → (a || (p || (l || t))) ≡ (a || (l || (p || t)))
last-first true p l t = refl
last-first false true true t = refl
last-first false true false t = refl
last-first false false l t = refl

last_cons : (c d : ℕ) (s : Bytes) → get_or (c ∷ d ∷ s) (length (c ∷ d ∷ s) - 1) 0 ≡ get_or (d ∷ s) (length (d ∷ s) - 1) 0
last_cons c d s = let e : suc (suc (length s)) - 1 ≡ suc (suc (length s) - 1) = omega arith in rw e

joined_open : (b c : ℕ) (s : Bytes) → joined b (c ∷ s) ≡ ((eqb 47 b && eqb 47 c) || (eqb 47 (get_or (c ∷ s) (length (c ∷ s) - 1) 0) || twice 47 (c ∷ s)))
joined_open b c [] = last-only (eqb 47 b && eqb 47 c) (eqb 47 c)
joined_open b c (d ∷ s) =
    rw (joined_open c d s, last_cons c d s)
    (last-first (eqb 47 b && eqb 47 c) (eqb 47 c && eqb 47 d) (eqb 47 (get_or (d ∷ s) (length (d ∷ s) - 1) 0)) (twice 47 (d ∷ s)))

pub joined-slashed : (s : Bytes) → 1 ≤ length s → joined 47 s ≡ slashed s
joined-slashed [] h = absurd (not-suc-le-zero h)
joined-slashed (c ∷ s) h = joined_open 47 c s
