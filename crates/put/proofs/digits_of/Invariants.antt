-- `put::digits_of` meets its contract. The invariant: the digits of what is left of the number, and after them those that are written.
use Rattle.put.specs.Numerals.{decimal_of, decimal}
use lib.ListN.{length, drop}
use mathlib.Core.List.{◌++◌}
use mathlib.Core.Path.{◌≡◌}
use Prim.Native.Nat.{◌≤◌}
use Rattle.put.proofs.digits_of.Given as goal

abbrev pub invariant-loop-from : goal.invariant-loop-from
invariant-loop-from l = (length l.digits ≡ 20) × (l.from ≤ 20) × (decimal l.n ≡ decimal_of l.from l.left ++ drop l.from l.digits)
