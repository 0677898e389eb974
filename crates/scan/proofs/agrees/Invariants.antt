-- `scan::agrees` meets its contract: i bytes agree, and what is left of both agrees as far as `common` says.
use Prim.Native.Nat.{◌+◌, ◌≤◌}
use mathlib.Core.Path.{◌≡◌}
use lib.ListN.{length, drop}
use Rattle.tree.specs.Form.{common}
use Rattle.scan.proofs.agrees.Given as goal

abbrev pub invariant-loop-i : goal.invariant-loop-i
invariant-loop-i l = (l.at + l.i ≤ length l.s) × (common (drop l.at l.s) l.word ≡ l.i + common (drop (l.at + l.i) l.s) (drop l.i l.word))
