-- CLASSES OF BYTES, PATTERNS, AND THE NUMBERS THAT BYTES SPELL. To be believed; definitions only.
--   digit, capital, small, capital_or_digit, letter_or_digit   0-9; A-Z; a-z; and together
--   letters, letter   the letter set, as source document 003 prints it; a byte of it
--   slashed s         s begins or ends with `/`, or has `//`
--   mark, fits p s    s has the shape of the pattern p: D is a digit, A a capital, N a capital or digit, every other mark stands for itself
--   value s           the number that the digits s spell
--   spelled s         the number that letters and digits spell, a letter read as 10 to 35, a and A alike
use Rattle.std.specs.Prelude.{ℕ, ◌+◌, ◌-◌, ◌*◌, Bool, true, false, ◌&&◌, ◌||◌, [], ◌∷◌, eqb, length, get_or}
use Rattle.laws.specs.Bytes.{Bytes, ascii, between, agree, has}

-- ─── classes ───

abbrev pub digit : ℕ → Bool
digit c = between 48 57 c

abbrev pub capital : ℕ → Bool
capital c = between 65 90 c

abbrev pub small : ℕ → Bool
small c = between 97 122 c

abbrev pub capital_or_digit : ℕ → Bool
capital_or_digit c = capital c || digit c

abbrev pub letter_or_digit : ℕ → Bool
letter_or_digit c = capital_or_digit c || small c

-- ─── the letter set: source document 003, II.4 ───

abbrev pub letters : Bytes
letters = ascii "abcdefghijklmnopqrstuvwxyzABCDEFGHIJKLMNOPQRSTUVWXYZ0123456789/-?:().,'+ "

abbrev pub letter : ℕ → Bool
letter c = has letters c

-- ─── slashes: 47 is `/` ───

-- the byte c stands twice in a row
abbrev pub twice : ℕ → Bytes → Bool
twice c [] = false
twice c (d ∷ s) = (eqb c d && eqb c (get_or s 0 0)) || twice c s

abbrev pub slashed : Bytes → Bool
slashed s = eqb 47 (get_or s 0 0) || (eqb 47 (get_or s (length s - 1) 0) || twice 47 s)

-- ─── patterns ───

abbrev pub mark : ℕ → ℕ → Bool
mark p c = elim (eqb p 68) [ true ↦ digit c | false ↦ elim (eqb p 65) [ true ↦ capital c | false ↦ elim (eqb p 78) [ true ↦ capital_or_digit c | false ↦ eqb p c ] ] ]

abbrev pub fits : Bytes → Bytes → Bool
fits p s = agree mark p s

-- ─── numbers ───

-- the number v followed by the digits
abbrev pub value_from : ℕ → Bytes → ℕ
value_from v [] = v
value_from v (c ∷ s) = value_from (v * 10 + (c - 48)) s

abbrev pub value : Bytes → ℕ
value s = value_from 0 s

-- A and a are 65 and 97: both are read as 10
abbrev pub letter_value : ℕ → ℕ
letter_value c = elim (digit c) [ true ↦ c - 48 | false ↦ elim (capital c) [ true ↦ c - 55 | false ↦ c - 87 ] ]

-- the number v followed by the letters and digits, a letter being two digits
abbrev pub spelled_from : ℕ → Bytes → ℕ
spelled_from v [] = v
spelled_from v (c ∷ s) = elim (digit c) [ true ↦ spelled_from (v * 10 + letter_value c) s | false ↦ spelled_from (v * 100 + letter_value c) s ]

abbrev pub spelled : Bytes → ℕ
spelled s = spelled_from 0 s
