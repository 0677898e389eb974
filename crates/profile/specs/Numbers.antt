-- THE NUMBERS OF THE REFUSALS, as the papers list them. To be believed; definitions only. Wherever document 01 names 5 or 26, 51 to 58 are meant.
--   Between a b n    n is one of the numbers a to b
--   TextNumber n     51 to 58: a text, or a value of a list, breaks its rule
--   BeforeTotals n   those of the check that stand before 6
--   CheckNumber n    those of the check
--   JudgedNumber n   those of a list as it is judged: document 01's "refusals 21 to 26"
--   WriteNumber n    those of the writer
use Rattle.std.specs.Prelude.{ℕ, ◌≤◌, ◌⊎◌}

abbrev pub Between : ℕ → ℕ → ℕ → Type 0
Between a b n = (a ≤ n) × (n ≤ b)

abbrev pub TextNumber : ℕ → Type 0
TextNumber n = Between 51 58 n

-- 59, the mix of an address, stands after the texts (request 3)
abbrev pub BeforeTotals : ℕ → Type 0
BeforeTotals n = Between 1 4 n ⊎ Between 51 59 n

abbrev pub CheckNumber : ℕ → Type 0
CheckNumber n = BeforeTotals n ⊎ Between 6 11 n

abbrev pub JudgedNumber : ℕ → Type 0
JudgedNumber n = Between 21 25 n ⊎ TextNumber n

abbrev pub WriteNumber : ℕ → Type 0
WriteNumber n = JudgedNumber n ⊎ Between 27 28 n
