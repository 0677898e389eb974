-- WHERE A VALUE BREAKS ITS RULE, in the words of document 01, which numbers it 26, and of request 1. To be believed; definitions only.
--   GoodValues n s           each value of line n, of which s are the bytes, keeps its rule
--   ValueBreaks s c f n i    the list s at the ceiling c meets none of 21 to 25; line n is the first of which "a value breaks its rule", i "the line's first bad field",
--                            and f the flaw of the first test that it fails
use Rattle.std.specs.Prelude.{ℕ, ◌+◌, ◌≤◌, T, length, Err}
use Rattle.laws.specs.Bytes.{Bytes}
use Rattle.laws.specs.Lists.{All, number, FirstNot}
use Rattle.profile.specs.Limits.{most_bytes, most_ceiling, most_collections}
use Rattle.profile.specs.Numbers.{Between}
use Rattle.profile.specs.declared.Flaw.{Flaw}
use Rattle.text.specs.Rules.{good}
use Rattle.frames.specs.Lines.{Line, lines}
use Rattle.frames.specs.Hex.{unhex}
use Rattle.frames.specs.Frames.{frame_of, is_frame}
use Rattle.daylist.specs.Values.{judged_fields}

abbrev pub GoodValues : ℕ → Bytes → Type 0
GoodValues n s = All (λ j. T (good j)) (judged_fields n s)

-- lines and fields are numbered from 1
pub record ValueBreaks (s : Bytes) (c : ℕ) (f : Flaw) (n i : ℕ) : Type 0 where
  pub short : length s ≤ most_bytes
  pub ceiling : Between 1 most_ceiling c
  pub frames : All (λ x. T (is_frame (frame_of x.0) x.1)) (number 1 (lines s))
  pub count : Between 2 (1 + most_collections) (length (lines s))
  pub line : Line
  pub first : FirstNot (λ x. GoodValues x.0 (unhex x.1.bytes)) (number 1 (lines s)) (n, line)
  pub field : FirstNot (λ x. T (good x.1)) (number 1 (judged_fields n (unhex line.bytes))) (i, Err f)
