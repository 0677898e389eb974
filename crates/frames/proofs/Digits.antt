-- HEXADECIMAL DIGITS: what a loop over them keeps, and where the bytes stand.
--   hex_odd, hex-all             an odd number of bytes is not hexadecimal; an even number is where each byte is a digit
--   value-digit, value-capital, value_none   what a byte is worth, by its class
--   value-under                  a digit is worth less than 16
--   unhex-length, unhex-at       two digits are a byte: how many there are, and the one at a place
use Prim.Native.Nat.{ℕ, zero, suc, ◌+◌, ◌-◌, ◌*◌, ◌/◌, ◌%◌, ◌<◌}
use native.Mathlib.Omega.{arith}
use mathlib.Core.Bool.{Bool, true, false, and-false}
use mathlib.Core.List.{[], ◌∷◌}
use mathlib.Core.Path.{◌≡◌, refl}
use lib.ListN.{length, get_or}
use Rattle.laws.specs.Bytes.{Bytes, between, all}
use Rattle.marks.specs.Marks.{digit}
use Rattle.marks.proofs.Classes.{between_high}
use Rattle.frames.specs.Hex.{hex_digit, hex_value, hex, unhex}

pub hex_odd : (s : Bytes) → (length s % 2 ≡ 0 → ⊥) → hex s ≡ false
hex_odd [] d = absurd (d refl)
hex_odd (a ∷ []) d = refl
hex_odd (a ∷ b ∷ s) d = rw (hex_odd s (λ e. d (omega (arith, e))), and-false, and-false)

pub hex-all : (s : Bytes) → length s % 2 ≡ 0 → hex s ≡ all hex_digit s
hex-all [] e = refl
hex-all (a ∷ []) e = absurd (omega (arith, e))
hex-all (a ∷ b ∷ s) e = rw (hex-all s (omega (arith, e)))

module _ (c : ℕ) where
  pub value-digit : digit c ≡ true → hex_value c ≡ c - 48
  value-digit d = rw (d, hex_value)

  pub value-capital : digit c ≡ false → between 65 70 c ≡ true → hex_value c ≡ c - 55
  value-capital d k = rw (d, k, hex_value)

  pub value_none : digit c ≡ false → between 65 70 c ≡ false → hex_value c ≡ 0
  value_none d k = rw (d, k, hex_value)

  pub value-under : hex_value c < 16
  value-under = go (digit c) refl (between 65 70 c) refl
    where
      go : (y : Bool) → digit c ≡ y → (z : Bool) → between 65 70 c ≡ z → hex_value c < 16
      go true d z k = rw (value-digit d) (omega (arith, between_high 48 57 c d))
      go false d true k = rw (value-capital d k) (omega (arith, between_high 65 70 c k))
      go false d false k = rw (value_none d k) (omega arith)

pub unhex-length : (s : Bytes) → length (unhex s) ≡ length s / 2
unhex-length [] = refl
unhex-length (a ∷ []) = refl
unhex-length (a ∷ b ∷ s) = omega (arith, unhex-length s)

pub unhex-at : (s : Bytes) (i : ℕ) → i < length s / 2 → get_or (unhex s) i 0 ≡ hex_value (get_or s (i * 2) 0) * 16 + hex_value (get_or s (i * 2 + 1) 0)
unhex-at [] i h = absurd (omega (arith, h))
unhex-at (a ∷ []) i h = absurd (omega (arith, h))
unhex-at (a ∷ b ∷ s) zero h = refl
unhex-at (a ∷ b ∷ s) (suc i) h =
    let e : suc i * 2 ≡ suc (suc (i * 2)) = omega arith in
    let f : suc (suc (i * 2)) + 1 ≡ suc (suc (i * 2 + 1)) = omega arith in
    rw (e, f) (unhex-at s i (omega (arith, h)))
