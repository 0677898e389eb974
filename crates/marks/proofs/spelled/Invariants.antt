-- `marks::spelled` meets its contract. The invariant: v has room for what is left, and with the text from i on it spells the number.
use Prim.Native.Nat.{◌+◌, ◌^◌, ◌<◌}
use mathlib.Core.Path.{◌≡◌}
use lib.ListN.{drop}
use Rattle.marks.specs.Marks.{spelled_from}
use Rattle.marks.proofs.spelled.Given as goal

abbrev pub invariant-loop-c : goal.invariant-loop-c
invariant-loop-c l = (l.v + 2 < 100 ^ (l.c-index + 1)) × (spelled_from l.left l.text ≡ spelled_from l.v (drop l.c-index l.text))
