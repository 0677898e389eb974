-- THE STAGES AS WALKS over the lines.
--   line-there                     the line at a place where one starts, and those after it
--   frame_judged, value_judged     a line judged by stage 23, and by its values
--   frames_walked, values_walked   the stages are walks by these
use Prim.Native.Nat.{ℕ, ◌+◌, ◌-◌, ◌<◌}
use native.Mathlib.Decide.{dec_lt}
use native.Mathlib.Omega.{arith}
use mathlib.Core.Bool.{Bool, true, false}
use mathlib.Core.List.{List, [], ◌∷◌}
use mathlib.Core.Path.{◌≡◌, refl}
use lib.Dec.{ltb}
use lib.ListN.{length, take, drop, length-drop, drop_of_length-le}
use Rattle.std.specs.Prelude.{Result, Ok, Err}
use Rattle.std.proofs.lemmas.Bool.{lt-ltb, le-ltb}
use Rattle.laws.specs.Bytes.{Bytes, span}
use Rattle.laws.proofs.Loops.{span_le}
use Rattle.profile.specs.declared.ListRefusal.{ListRefusal}
use Rattle.profile.specs.declared.ListRefusal.TheVariants.{NotAFrame, Value}
use Rattle.frames.specs.Lines.{Line, not_end, lines}
use Rattle.frames.specs.Hex.{unhex}
use Rattle.frames.specs.Frames.{frame_of, is_frame}
use Rattle.daylist.specs.Values.{JudgedLine, judged_line}
use Rattle.daylist.specs.Stages.{must, frames_from, of_line, values_from}
use Rattle.daylist.specs.Walk.{after, walked}
use Rattle.daylist.proofs.Ends.{next-there, last-there}

pub line-there : (s : Bytes) (at end : ℕ) → end ≡ at + span not_end (drop at s) → at < length s
    → lines (drop at s) ≡ record { bytes = take (end - at) (drop at s); ended = ltb end (length s) } ∷ lines (drop (end + 1) s)
line-there s at end e h = go (dec_lt end (length s))
  where
    go : Dec (end < length s) → lines (drop at s) ≡ record { bytes = take (end - at) (drop at s); ended = ltb end (length s) } ∷ lines (drop (end + 1) s)
    go (yes l) = rw (lt-ltb end (length s) l) (next-there s at end e l)
    go (no l) = rw (le-ltb end (length s) (omega arith), drop_of_length-le s {i = end + 1} (omega arith)) (last-there s at end e h (omega (arith, e, span_le not_end (drop at s), length-drop at s)))

abbrev pub frame_judged : ℕ → Line → Result (Unit {0}) ListRefusal
frame_judged n l = elim (is_frame (frame_of n) l) [ true ↦ Ok tt | false ↦ Err (NotAFrame n) ]

abbrev pub refused_at : ℕ → JudgedLine → Result (Unit {0}) ListRefusal
refused_at n (Ok u) = Ok tt
refused_at n (Err b) = Err (Value b.flaw n b.field)

abbrev pub value_judged : ℕ → Line → Result (Unit {0}) ListRefusal
value_judged n l = refused_at n (judged_line n (unhex l.bytes))

pub frames_walked : (k : ℕ) (ls : List Line) → walked frame_judged k ls ≡ frames_from k ls
frames_walked k [] = refl
frames_walked k (l ∷ ls) = go (is_frame (frame_of (k + 1)) l) (frames_walked (k + 1) ls)
  where
    go : (z : Bool) → walked frame_judged (k + 1) ls ≡ frames_from (k + 1) ls
        → after (elim z [ true ↦ Ok tt | false ↦ Err (NotAFrame (k + 1)) ]) (walked frame_judged (k + 1) ls) ≡ must z (NotAFrame (k + 1)) (frames_from (k + 1) ls)
    go true e = e
    go false e = refl

pub values_walked : (k : ℕ) (ls : List Line) → walked value_judged k ls ≡ values_from k ls
values_walked k [] = refl
values_walked k (l ∷ ls) = go (judged_line (k + 1) (unhex l.bytes)) (values_walked (k + 1) ls)
  where
    go : (j : JudgedLine) → walked value_judged (k + 1) ls ≡ values_from (k + 1) ls → after (refused_at (k + 1) j) (walked value_judged (k + 1) ls) ≡ of_line j (k + 1) (values_from (k + 1) ls)
    go (Ok u) e = e
    go (Err b) e = refl
