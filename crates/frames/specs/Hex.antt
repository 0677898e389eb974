-- HEXADECIMAL DIGITS 0-9 A-F, and the bytes that an even number of them stand for. To be believed; definitions only.
--   hex_digit c   the byte c is a digit; a small letter is none
--   hex_value c   what the digit is worth, 0 where it is none
--   hex s        an even number of digits
--   unhex s      the bytes that they stand for, two digits a byte, the high one first
use Rattle.std.specs.Prelude.{ℕ, ◌+◌, ◌-◌, ◌*◌, Bool, true, false, ◌&&◌, ◌||◌, [], ◌∷◌}
use Rattle.laws.specs.Bytes.{Bytes, between}
use Rattle.marks.specs.Marks.{digit}

-- 65 is A, 70 is F
abbrev pub hex_digit : ℕ → Bool
hex_digit c = digit c || between 65 70 c

abbrev pub hex_value : ℕ → ℕ
hex_value c = elim (digit c) [ true ↦ c - 48 | false ↦ elim (between 65 70 c) [ true ↦ c - 55 | false ↦ 0 ] ]

abbrev pub hex : Bytes → Bool
hex [] = true
hex (a ∷ []) = false
hex (a ∷ b ∷ s) = hex_digit a && (hex_digit b && hex s)

abbrev pub unhex : Bytes → Bytes
unhex [] = []
unhex (a ∷ []) = []
unhex (a ∷ b ∷ s) = (hex_value a * 16 + hex_value b) ∷ unhex s
