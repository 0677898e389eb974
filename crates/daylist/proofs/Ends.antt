-- WHERE A LINE ENDS.
--   end_is, end-within   the end as it is read, from the start of the line on; it is within the list
--   part-is              the part up to there is the line
--   next-there, last-there   the lines from there on: where LF ends the first of them, and where it does not
use Prim.Native.Nat.{ℕ, ◌+◌, ◌-◌, ◌<◌, ◌≤◌}
use native.Mathlib.Omega.{arith}
use mathlib.Core.Bool.{true, false}
use mathlib.Core.List.{[], ◌∷◌}
use mathlib.Core.Path.{◌≡◌, refl, ap, ◌∙◌}
use lib.ListN.{length, take, drop, length-drop}
use Rattle.laws.specs.Bytes.{Bytes, span}
use Rattle.laws.proofs.Loops.{drop-part, span_le}
use Rattle.frames.specs.Lines.{not_end, line_from, lines}
use Rattle.frames.proofs.Cuts.{next-line, end_line}

module _ (s : Bytes) (a n : ℕ) (e : n ≡ span not_end (take (length s - a) (drop a s))) where
  far : n ≡ span not_end (drop a s)
  far = e ∙ ap (span not_end) (drop-part a s)

  pub end_is : a + n ≡ a + span not_end (drop a s)
  end_is = omega (arith, far)

  pub end-within : a ≤ length s → a + n ≤ length s
  end-within h = omega (arith, far, span_le not_end (drop a s), length-drop a s)

pub part-is : (s : Bytes) (a e : ℕ) → e ≡ a + span not_end (drop a s) → take (e - a) (drop a s) ≡ line_from s a
part-is s a e h = let k : e - a ≡ span not_end (drop a s) = omega arith in rw k

module _ (s : Bytes) (at end : ℕ) (e : end ≡ at + span not_end (drop at s)) where
  pub next-there : end < length s → lines (drop at s) ≡ record { bytes = take (end - at) (drop at s); ended = true } ∷ lines (drop (end + 1) s)
  next-there h = rw e (next-line s at (span not_end (drop at s)) refl (omega arith))

  pub last-there : at < length s → end ≡ length s → lines (drop at s) ≡ record { bytes = take (end - at) (drop at s); ended = false } ∷ []
  last-there h l = rw e (end_line s at (span not_end (drop at s)) refl h (omega arith))
