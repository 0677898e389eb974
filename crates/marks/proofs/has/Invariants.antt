-- `marks::has` meets its contract. The invariant: the byte stands in the row where `found` holds or it stands in what is left.
use mathlib.Core.Bool.{◌||◌}
use mathlib.Core.Path.{◌≡◌}
use lib.ListN.{drop}
use Rattle.laws.specs.Bytes.{has}
use Rattle.marks.proofs.has.Given as goal

abbrev pub invariant-loop-mark : goal.invariant-loop-mark
invariant-loop-mark l = has l.row l.c ≡ l.found || has (drop l.mark-index l.row) l.c
