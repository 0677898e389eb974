-- BYTE STRINGS, and what is asked of them. To be believed; definitions only.
--   Bytes          a byte string, as a list of numbers
--   ascii "abc"    97 ∷ 98 ∷ 99 ∷ []
--   between a b c  c is a number from a to b
--   all p s        every byte of s is of the class p
--   span p s       how many bytes at the front of s are of the class p
--   agree r s t    s and t are of one length, and their bytes stand to each other as r says
--   same s t       s and t are the same bytes
--   has s c        the byte c stands in s
use Rattle.std.specs.Prelude.{ℕ, suc, Bool, true, false, ◌&&◌, ◌||◌, List, [], ◌∷◌, eqb, leb}
use Prim.Native.Char.{code}
use Prim.Native.String.{String, [] as []ˢ, ◌∷◌ as ◌∷ˢ◌}

abbrev pub Bytes : Type 0
Bytes = List ℕ

-- the bytes of a text of ASCII characters: one number for each character
abbrev pub ascii : String → Bytes
ascii []ˢ = []
ascii (c ∷ˢ s) = code c ∷ ascii s

abbrev pub between : ℕ → ℕ → ℕ → Bool
between a b c = leb a c && leb c b

abbrev pub all : (ℕ → Bool) → Bytes → Bool
all p [] = true
all p (c ∷ s) = p c && all p s

abbrev pub span : (ℕ → Bool) → Bytes → ℕ
span p [] = 0
span p (c ∷ s) = elim (p c) [ true ↦ suc (span p s) | false ↦ 0 ]

abbrev pub agree : (ℕ → ℕ → Bool) → Bytes → Bytes → Bool
agree r [] [] = true
agree r [] (b ∷ t) = false
agree r (a ∷ s) [] = false
agree r (a ∷ s) (b ∷ t) = r a b && agree r s t

abbrev pub same : Bytes → Bytes → Bool
same s t = agree eqb s t

abbrev pub has : Bytes → ℕ → Bool
has [] c = false
has (d ∷ s) c = eqb c d || has s c
