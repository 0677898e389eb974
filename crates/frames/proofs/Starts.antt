-- THE LINES BY THEIR STARTS: the table of starts leads to the bytes of each line.
--   line-from       of the lines from a place on: line i starts within the list, and from there up to the next LF stand its bytes
--   line_at         of the whole list: from the start of line i up to the next LF stand the bytes of line i
--   start-within    it starts within the list
--   starts-number   there is a start for each line
use Prim.Native.Nat.{ℕ, zero, suc, ◌+◌, ◌-◌, ◌<◌}
use native.Mathlib.Nat.{not-suc-le-zero, le_of_suc-le-suc}
use native.Mathlib.Decide.{dec_lt}
use native.Mathlib.Omega.{arith}
use mathlib.Core.List.{List, [], ◌∷◌}
use mathlib.Core.Path.{◌≡◌, refl, ap, sym}
use lib.ListN.{length, take, drop, get_or, length-drop, drop_of_length-le}
use Rattle.laws.specs.Bytes.{Bytes, span}
use Rattle.laws.proofs.Loops.{span_le}
use Rattle.frames.specs.Lines.{Line, not_end, lines, starts_from, starts}
use Rattle.frames.proofs.Cuts.{next-line, end_line, starts-go}

module _ (d : Line) (s : Bytes) where
  -- how far the next LF is
  abbrev far : ℕ → ℕ
  far a = span not_end (drop a s)

  -- the bytes up to it
  abbrev up_to : ℕ → Bytes
  up_to a = take (far a) (drop a s)

  cut_at : (a : ℕ) → take (a + far a - a) (drop a s) ≡ up_to a
  cut_at a = let e : a + far a - a ≡ far a = omega arith in rw e

  -- what is claimed of the line i from the place `at` on, where the lines are ls and start as said
  abbrev Leads : List ℕ → List Line → ℕ → Type 0
  Leads ps ls i = (get_or ps i 0 < length s) × (up_to (get_or ps i 0) ≡ (get_or ls i d).bytes)

  pub line-from : (i at : ℕ) → i < length (lines (drop at s)) → Leads (starts_from at (lines (drop at s))) (lines (drop at s)) i
  line-from zero at h = go (dec_lt at (length s)) (dec_lt (at + far at) (length s))
    where
      go : Dec (at < length s) → Dec (at + far at < length s) → Leads (starts_from at (lines (drop at s))) (lines (drop at s)) zero
      go (yes k) (yes l) = rw (next-line s at (far at) refl l) (k, sym (cut_at at))
      go (yes k) (no l) = rw (end_line s at (far at) refl k (omega (arith, span_le not_end (drop at s), length-drop at s))) (k, sym (cut_at at))
      go (no k) l = absurd (not-suc-le-zero (rw (drop_of_length-le s {i = at} (omega arith)) at h))
  line-from (suc i) at h = go (dec_lt at (length s)) (dec_lt (at + far at) (length s)) (λ l. line-from i (at + far at + 1) l)
    where
      go : Dec (at < length s) → Dec (at + far at < length s)
          → (i < length (lines (drop (at + far at + 1) s)) → Leads (starts_from (at + far at + 1) (lines (drop (at + far at + 1) s))) (lines (drop (at + far at + 1) s)) i)
          → Leads (starts_from at (lines (drop at s))) (lines (drop at s)) (suc i)
      go (yes k) (yes l) f = rw (starts-go s at (far at) refl l, next-line s at (far at) refl l) (f (le_of_suc-le-suc (rw (next-line s at (far at) refl l) at h)))
      go (yes k) (no l) f = absurd (not-suc-le-zero (le_of_suc-le-suc (rw (end_line s at (far at) refl k (omega (arith, span_le not_end (drop at s), length-drop at s))) at h)))
      go (no k) l f = absurd (not-suc-le-zero (rw (drop_of_length-le s {i = at} (omega arith)) at h))

  pub line_at : (i : ℕ) → i < length (lines s) → take (span not_end (drop (get_or (starts s) i 0) s)) (drop (get_or (starts s) i 0) s) ≡ (get_or (lines s) i d).bytes
  line_at i h = (line-from i 0 h).1

  pub start-within : (i : ℕ) → i < length (lines s) → get_or (starts s) i 0 < length s
  start-within i h = (line-from i 0 h).0

starts-count : (n : ℕ) (ls : List Line) → length (starts_from n ls) ≡ length ls
starts-count n [] = refl
starts-count n (l ∷ ls) = ap suc (starts-count (n + length l.bytes + 1) ls)

pub starts-number : (s : Bytes) → length (starts s) ≡ length (lines s)
starts-number s = starts-count 0 (lines s)
