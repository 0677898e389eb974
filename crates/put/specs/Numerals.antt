-- NUMBERS AS THEY ARE WRITTEN. To be believed; definitions only.
--   last_digit n   the last digit of n
--   decimal n     n without leading zeros
--   euros n       n cents with two decimals and no needless leading zero: 5 cents are `0.05`
--   batch_id n     `B` and three digits
use Rattle.std.specs.Prelude.{ℕ, zero, suc, ◌+◌, ◌/◌, ◌%◌, true, false, [], ◌∷◌, ◌++◌, ltb}
use Rattle.laws.specs.Bytes.{Bytes}

-- 48 is 0
abbrev pub last_digit : ℕ → ℕ
last_digit n = 48 + n % 10

-- at most `most` digits
unfoldable pub decimal_of : ℕ → ℕ → Bytes
decimal_of zero n = []
decimal_of (suc most) n = elim (ltb n 10) [ true ↦ last_digit n ∷ [] | false ↦ decimal_of most (n / 10) ++ (last_digit n ∷ []) ]

-- a number of 64 bits has at most 20 digits
abbrev pub decimal : ℕ → Bytes
decimal n = decimal_of 20 n

-- 46 is the point
abbrev pub euros : ℕ → Bytes
euros n = decimal (n / 100) ++ (46 ∷ last_digit (n / 10) ∷ last_digit n ∷ [])

-- 66 is B
abbrev pub batch_id : ℕ → Bytes
batch_id n = 66 ∷ last_digit (n / 100) ∷ last_digit (n / 10) ∷ last_digit n ∷ []
