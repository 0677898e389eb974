-- THE LINES of a day list, cut at LF, which is 10. To be believed; definitions only.
--   Line       the bytes of a line, and whether LF ended it
--   not_end     a byte that does not end a line
--   lines s    the lines of s: bytes after the last LF are a line that lacks it; no bytes, no lines
--   starts s   where each line starts in s, counted in bytes from 0
--   line_from s a   the bytes from a on, up to the next LF
use Rattle.std.specs.Prelude.{ℕ, ◌+◌, Bool, true, false, not, List, [], ◌∷◌, eqb, length, take, drop}
use Rattle.laws.specs.Bytes.{Bytes, span}

pub record Line : Type 0 where
  pub bytes : Bytes
  pub ended : Bool

abbrev pub not_end : ℕ → Bool
not_end c = not (eqb c 10)

-- the byte c in front of the first line; where there is none it is a line that lacks LF
abbrev pub in_front : ℕ → List Line → List Line
in_front c [] = record { bytes = c ∷ []; ended = false } ∷ []
in_front c (l ∷ ls) = record { bytes = c ∷ l.bytes; ended = l.ended } ∷ ls

abbrev pub lines : Bytes → List Line
lines [] = []
lines (c ∷ s) = elim (not_end c) [ true ↦ in_front c (lines s) | false ↦ record { bytes = []; ended = true } ∷ lines s ]

-- the first of these lines starts at n; LF stands after each but perhaps the last
abbrev pub starts_from : ℕ → List Line → List ℕ
starts_from n [] = []
starts_from n (l ∷ ls) = n ∷ starts_from (n + length l.bytes + 1) ls

abbrev pub starts : Bytes → List ℕ
starts s = starts_from 0 (lines s)

abbrev pub line_from : Bytes → ℕ → Bytes
line_from s a = take (span not_end (drop a s)) (drop a s)
