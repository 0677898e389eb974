-- `frames::lines::line_starts` meets its contract. The invariant: with the starts of the lines from `at` on put after what is written, as far as the table goes, it is what is promised.
use Rattle.frames.specs.Lines.{lines, starts_from, starts}
use Rattle.laws.specs.Put.{put_at}
use lib.ListN.{length, take, drop}
use mathlib.Core.Path.{◌≡◌}
use Prim.Native.Nat.{◌-◌}
use Rattle.frames.proofs.lines.line_starts.Given as goal

abbrev pub invariant-loop-start : goal.invariant-loop-start
invariant-loop-start l = (length l.start-items ≡ length l.initial.start-items)
    × (put_at l.initial.start-items 0 (take (length l.initial.start-items) (starts l.list)) ≡ put_at l.start-items l.start-index (take (length l.initial.start-items - l.start-index) (starts_from l.at (lines (drop l.at l.list)))))
