-- `marks::is_slashed` meets its contract. The invariant: the text is slashed where what is left, with the byte before it, still makes the loop answer so.
use mathlib.Core.Path.{◌≡◌}
use lib.ListN.{drop}
use Rattle.marks.specs.Marks.{slashed}
use Rattle.marks.proofs.Slashes.{joined}
use Rattle.marks.proofs.is_slashed.Given as goal

abbrev pub invariant-loop-c : goal.invariant-loop-c
invariant-loop-c l = slashed l.text ≡ joined l.before (drop l.c-index l.text)
