-- A TEXT OF A FRONT AND A REST, as an IBAN and a creditor identifier are, for the code. Not to be believed: no promise to a caller speaks of it.
--   shaped p m q s    the front of s fits the pattern p, and after it stand 1 to m bytes of the class q
--   letter_marks p    the pattern p has four marks at least, and each stands for letters or digits
--   OfLetters q       the class q is one of letters and digits
--   checked p m q s   how s is judged that is to have this shape, and then check digits: what of the front stands after the first four is left out
use Rattle.std.specs.Prelude.{ℕ, Bool, true, ◌≡◌, ◌&&◌, ◌++◌, eqb, leb, length, take, drop, Ok}
use Rattle.laws.specs.Bytes.{Bytes, ascii, between, all, has}
use Rattle.marks.specs.Marks.{letter_or_digit, fits}
use Rattle.profile.specs.declared.Flaw.TheVariants.{Shape, CheckDigits}
use Rattle.text.specs.Rules.{Judged, must, leaves}

abbrev pub shaped : Bytes → ℕ → (ℕ → Bool) → Bytes → Bool
shaped p m q s = fits p (take (length p) s) && (between 1 m (length (drop (length p) s)) && all q (drop (length p) s))

abbrev pub letter_marks : Bytes → Bool
letter_marks p = leb 4 (length p) && all (has (ascii "ADN")) p

abbrev pub OfLetters : (ℕ → Bool) → Type 0
OfLetters q = (c : ℕ) → q c ≡ true → letter_or_digit c ≡ true

abbrev pub checked : Bytes → ℕ → (ℕ → Bool) → Bytes → Judged
checked p m q s = must (shaped p m q s) Shape (must (eqb (leaves (take 4 s ++ drop (length p) s)) 1) CheckDigits (Ok 0))
