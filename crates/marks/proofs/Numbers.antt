-- THE NUMBER THAT A TEXT SPELLS.
--   power_under              a number below a power is below each later power
--   tens_room, hundreds_room   a number so far has room for one digit more, for two
--   digit-more               with one digit more it stays below its power of ten
--   value-under              at most n digits spell a number below the n-th power of ten
--   shift                    what a letter or digit multiplies the number before it by: 10 or 100
--   remainder_append         one text after another: of the number before only the remainder counts
use Prim.Native.Nat.{ℕ, suc, ◌+◌, ◌-◌, ◌*◌, ◌/◌, ◌%◌, ◌^◌, ◌<◌, ◌≤◌}
use native.Mathlib.Nat.{add-zero, add-mul, add_assoc, mul_right_comm, div-add-mod', mul-add-mod_self_right, mod-mod, pow-suc, pow-le-pow_right}
use native.Mathlib.Numerals.{add-one}
use native.Mathlib.Omega.{arith}
use mathlib.Core.Bool.{Bool, true, false}
use mathlib.Core.List.{[], ◌∷◌, ◌++◌}
use mathlib.Core.Path.{◌≡◌, refl, sym, ◌∙◌, ap}
use lib.Dec.{T}
use lib.ListN.{length}
use Rattle.laws.specs.Bytes.{Bytes, all}
use Rattle.laws.proofs.Tests.{and_l, and_r, T_true, true-T}
use Rattle.marks.specs.Marks.{digit, value, value_from, letter_value, spelled_from}
use Rattle.marks.proofs.Classes.{between_high}

pub power_under : (b v i n : ℕ) → 0 < b → v < b ^ i → i ≤ n → v < b ^ n
power_under b v i n p u h = omega (arith, pow-le-pow_right {n = b} p h)

-- another digit has room, another two have
pub tens_room : (v i : ℕ) → v < 10 ^ i → i < 15 → v * 10 + 256 < 2 ^ 64
tens_room v i u h = omega (arith, power_under 10 v i 15 (omega arith) u (omega arith))

pub hundreds_room : (v i : ℕ) → v + 2 < 100 ^ (i + 1) → i < 8 → v * 100 + 256 < 2 ^ 64
hundreds_room v i u h = omega (arith, power_under 100 (v + 2) (i + 1) 8 (omega arith) u (omega arith))

pub digit-more : (v i : ℕ) → v < 10 ^ i → (c : ℕ) → digit c ≡ true → v * 10 + (c - 48) < 10 ^ (i + 1)
digit-more v i u c d = rw (add-one i, pow-suc 10 i) (omega (arith, between_high 48 57 c d))

value_from_under : (v i : ℕ) (s : Bytes) → v < 10 ^ i → T (all digit s) → value_from v s < 10 ^ (i + length s)
value_from_under v i [] u t = rw (add-zero i) u
value_from_under v i (c ∷ s) u t =
    let e : i + suc (length s) ≡ i + 1 + length s = omega arith in
    rw e (value_from_under (v * 10 + (c - 48)) (i + 1) s (digit-more v i u c (T_true (digit c) (and_l (digit c) (all digit s) t))) (and_r (digit c) (all digit s) t))

pub value-under : (n : ℕ) (s : Bytes) → length s ≤ n → all digit s ≡ true → value s < 10 ^ n
value-under n s h e = power_under 10 (value s) (0 + length s) n (omega arith) (value_from_under 0 0 s (omega arith) (true-T (all digit s) e)) (omega arith)

-- ─── letters and digits ───

-- what the number before is multiplied by where the byte c follows
abbrev pub shift : ℕ → ℕ
shift c = elim (digit c) [ true ↦ 10 | false ↦ 100 ]

spelled_cons : (v c : ℕ) (s : Bytes) → spelled_from v (c ∷ s) ≡ spelled_from (v * shift c + letter_value c) s
spelled_cons v c s = go (digit c) (letter_value c)
  where
    go : (z : Bool) (n : ℕ) → elim z [ true ↦ spelled_from (v * 10 + n) s | false ↦ spelled_from (v * 100 + n) s ] ≡ spelled_from (v * elim z [ true ↦ 10 | false ↦ 100 ] + n) s
    go true n = refl
    go false n = refl

-- of a number only the remainder counts
mod_more : (m k n x : ℕ) → (x * k + n) % m ≡ (x % m * k + n) % m
mod_more m k n x =
    let e : x * k + n ≡ x / m * k * m + (x % m * k + n) =
    ap (λ (y : ℕ). y * k + n) (sym (div-add-mod' x m)) ∙ rw (add-mul, add_assoc, mul_right_comm (x / m) m k) in
    rw e (mul-add-mod_self_right (x / m * k) m (x % m * k + n))

mod_same : (m k n x y : ℕ) → x % m ≡ y % m → (x * k + n) % m ≡ (y * k + n) % m
mod_same m k n x y e = mod_more m k n x ∙ rw e (sym (mod_more m k n y))

spelled_mod : (m x y : ℕ) (s : Bytes) → x % m ≡ y % m → spelled_from x s % m ≡ spelled_from y s % m
spelled_mod m x y [] e = e
spelled_mod m x y (c ∷ s) e =
    rw (spelled_cons x c s, spelled_cons y c s) (spelled_mod m (x * shift c + letter_value c) (y * shift c + letter_value c) s (mod_same m (shift c) (letter_value c) x y e))

spelled-append : (v : ℕ) (s t : Bytes) → spelled_from v (s ++ t) ≡ spelled_from (spelled_from v s) t
spelled-append v [] t = refl
spelled-append v (c ∷ s) t = rw (spelled_cons v c (s ++ t), spelled_cons v c s) (spelled-append (v * shift c + letter_value c) s t)

pub remainder_append : (m v : ℕ) (s t : Bytes) → spelled_from v (s ++ t) % m ≡ spelled_from (spelled_from v s % m) t % m
remainder_append m v s t = rw (spelled-append v s t) (spelled_mod m _ _ t (sym (mod-mod (spelled_from v s) m)))
