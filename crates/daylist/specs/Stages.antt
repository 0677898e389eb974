-- THE STAGES OF A LIST, 21 to 25 and 51 to 58, in order, each over the whole list. To be believed; definitions only. The numbers, places and fields of the refusals are profile's `list_fault_of`.
--   must b r j            where the test b fails, refused with r; else j
--   frames_from k ls       23: the first line that is not a frame of its kind, or lacks LF; k lines stand before ls. Ok: the number of lines
--   values_from k ls       51 to 58: the first line of which a value breaks its rule, and its first such field. Ok: the number of lines
--   judged_list s c        THE LIST s at the ceiling c: the first refusal of 21 to 25 and 51 to 58, or good, with the number of its collections
use Rattle.std.specs.Prelude.{ℕ, ◌+◌, ◌-◌, Bool, true, false, List, [], ◌∷◌, leb, length, Result, Ok, Err}
use Rattle.laws.specs.Bytes.{Bytes, between}
use Rattle.profile.specs.Limits.{most_bytes, most_ceiling, most_collections}
use Rattle.profile.specs.declared.ListRefusal.{ListRefusal}
use Rattle.profile.specs.declared.ListRefusal.TheVariants.{TooLong, Ceiling, NotAFrame, NoCollection, TooManyCollections, Value}
use Rattle.frames.specs.Lines.{Line, lines}
use Rattle.frames.specs.Hex.{unhex}
use Rattle.frames.specs.Frames.{frame_of, is_frame}
use Rattle.daylist.specs.Values.{JudgedLine, judged_line}

-- what a list is judged: good, with the number of its collections, or refused
abbrev pub JudgedList : Type 0
JudgedList = Result ℕ ListRefusal

abbrev pub must : Bool → ListRefusal → JudgedList → JudgedList
must true r j = j
must false r j = Err r

-- a stage that finds no fault leaves it to the next one
abbrev pub next : JudgedList → JudgedList → JudgedList
next (Ok n) j = j
next (Err r) j = Err r

-- 23
abbrev pub frames_from : ℕ → List Line → JudgedList
frames_from k [] = Ok k
frames_from k (l ∷ ls) = must (is_frame (frame_of (k + 1)) l) (NotAFrame (k + 1)) (frames_from (k + 1) ls)

-- 51 to 58
abbrev pub of_line : JudgedLine → ℕ → JudgedList → JudgedList
of_line (Ok u) k j = j
of_line (Err b) k j = Err (Value b.flaw k b.field)

abbrev pub values_from : ℕ → List Line → JudgedList
values_from k [] = Ok k
values_from k (l ∷ ls) = of_line (judged_line (k + 1) (unhex l.bytes)) (k + 1) (values_from (k + 1) ls)

-- 24 and 25, of n lines: line 1 is the creditor's
abbrev pub collections_of : ℕ → JudgedList → JudgedList
collections_of n j = must (leb 2 n) (NoCollection n) (must (leb n (1 + most_collections)) TooManyCollections j)

abbrev pub judged_lines : List Line → JudgedList
judged_lines ls = next (frames_from 0 ls) (collections_of (length ls) (next (values_from 0 ls) (Ok (length ls - 1))))

abbrev pub judged_list : Bytes → ℕ → JudgedList
judged_list s c = must (leb (length s) most_bytes) TooLong (must (between 1 most_ceiling c) Ceiling (judged_lines (lines s)))
