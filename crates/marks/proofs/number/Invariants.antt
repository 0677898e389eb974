-- `marks::number` meets its contract. The invariant: v is below the i-th power of ten, and v with the digits from i on spells the number.
use Prim.Native.Nat.{◌<◌, ◌^◌}
use mathlib.Core.Path.{◌≡◌}
use lib.ListN.{drop}
use Rattle.marks.specs.Marks.{value, value_from}
use Rattle.marks.proofs.number.Given as goal

abbrev pub invariant-loop-c : goal.invariant-loop-c
invariant-loop-c l = (l.v < 10 ^ l.c-index) × (value l.text ≡ value_from l.v (drop l.c-index l.text))
