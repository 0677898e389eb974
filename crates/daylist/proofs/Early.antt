-- A LIST AS IT IS JUDGED IS REFUSED WITH 21 TO 25 AND 51 TO 58 ALONE: 27 and 28 are the writer's.
--   Early j       the number of the refusal, where j is one, is among them
--   list-early    that of a list that is judged is
use Prim.Native.Nat.{ℕ, ◌+◌}
use native.Mathlib.Omega.{arith}
use mathlib.Core.Bool.{Bool, true, false}
use mathlib.Core.List.{List, [], ◌∷◌}
use mathlib.Core.Logic.{inl, inr}
use lib.Dec.{leb}
use lib.ListN.{length}
use Rattle.std.specs.Prelude.{Err, Ok}
use Rattle.laws.specs.Bytes.{Bytes, between}
use Rattle.profile.specs.Limits.{most_bytes, most_ceiling, most_collections}
use Rattle.profile.specs.Refusals.{list_number_of}
use Rattle.profile.specs.Numbers.{Between, JudgedNumber}
use Rattle.profile.proofs.Faults.{flaw-number}
use Rattle.profile.specs.declared.ListRefusal.{ListRefusal}
use Rattle.profile.specs.declared.ListRefusal.TheVariants.{TooLong, Ceiling, NotAFrame, NoCollection, TooManyCollections}
use Rattle.frames.specs.Lines.{Line, lines}
use Rattle.frames.specs.Hex.{unhex}
use Rattle.frames.specs.Frames.{frame_of, is_frame}
use Rattle.daylist.specs.Values.{JudgedLine, judged_line}
use Rattle.daylist.specs.Stages.{JudgedList, must, next, frames_from, of_line, values_from, collections_of, judged_lines, judged_list}

abbrev pub Early : JudgedList → Type 0
Early (Ok n) = Unit {0}
Early (Err r) = JudgedNumber (list_number_of r)

-- the refusals before the values are 21 to 25
must-early : (b : Bool) (r : ListRefusal) (j : JudgedList) → Between 21 25 (list_number_of r) → Early j → Early (must b r j)
must-early true r j h e = e
must-early false r j h e = inl h

next-early : (i j : JudgedList) → Early i → Early j → Early (next i j)
next-early (Ok n) j a b = b
next-early (Err r) j a b = a

frames-early : (k : ℕ) (ls : List Line) → Early (frames_from k ls)
frames-early k [] = tt
frames-early k (l ∷ ls) = must-early (is_frame (frame_of (k + 1)) l) (NotAFrame (k + 1)) (frames_from (k + 1) ls) (omega arith, omega arith) (frames-early (k + 1) ls)

of-early : (x : JudgedLine) (k : ℕ) (j : JudgedList) → Early j → Early (of_line x k j)
of-early (Ok u) k j e = e
of-early (Err b) k j e = inr (flaw-number b.flaw)

values-early : (k : ℕ) (ls : List Line) → Early (values_from k ls)
values-early k [] = tt
values-early k (l ∷ ls) = of-early (judged_line (k + 1) (unhex l.bytes)) (k + 1) (values_from (k + 1) ls) (values-early (k + 1) ls)

collections-early : (n : ℕ) (j : JudgedList) → Early j → Early (collections_of n j)
collections-early n j e =
    let few : JudgedList = must (leb n (1 + most_collections)) TooManyCollections j in
    must-early (leb 2 n) (NoCollection n) few (omega arith, omega arith) (must-early (leb n (1 + most_collections)) TooManyCollections j (omega arith, omega arith) e)

lines-early : (ls : List Line) → Early (judged_lines ls)
lines-early ls =
    let values : JudgedList = next (values_from 0 ls) (Ok _) in
    next-early (frames_from 0 ls) (collections_of (length ls) values) (frames-early 0 ls) (collections-early (length ls) values (next-early (values_from 0 ls) (Ok _) (values-early 0 ls) tt))

pub list-early : (s : Bytes) (c : ℕ) → Early (judged_list s c)
list-early s c =
    let j : JudgedList = judged_lines (lines s) in
    must-early (leb (length s) most_bytes) TooLong (must (between 1 most_ceiling c) Ceiling j) (omega arith, omega arith) (must-early (between 1 most_ceiling c) Ceiling j (omega arith, omega arith) (lines-early (lines s)))
