-- TERMS AS NUMBERS, by which the code compares them. Not to be believed: terms of real days are the same exactly where their numbers are (`same_number`).
--   terms_number k   the terms k as one number
--   numbers_of s     the number of each collection's terms
use Rattle.std.specs.Prelude.{ℕ, ◌+◌, ◌*◌, List, map}
use Rattle.laws.specs.Bytes.{Bytes}
use Rattle.text.specs.Rules.{number_told, date}
use Rattle.collections.specs.Listed.{Terms, listed}

abbrev pub terms_number : Terms → ℕ
terms_number k = (number_told (date k.date) * 2 + k.scheme) * 4 + k.sequence

abbrev pub numbers_of : Bytes → List ℕ
numbers_of s = map (λ x. terms_number x.terms) (listed s)
