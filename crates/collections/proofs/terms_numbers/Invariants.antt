-- `collections::terms_numbers` meets its contract. The invariant: with the numbers of the collections from i on put after those that are written, they are all that is promised.
use Rattle.collections.specs.Numbers.{numbers_of}
use Rattle.laws.specs.Put.{put_at}
use lib.ListN.{length, drop}
use mathlib.Core.Path.{◌≡◌}
use Prim.Native.Nat.{◌≤◌}
use Rattle.collections.proofs.terms_numbers.Given as goal

abbrev pub invariant-loop-i : goal.invariant-loop-i
invariant-loop-i l = (length l.numbers ≡ length l.initial.numbers) × (l.i ≤ length l.numbers) × (put_at l.numbers l.i (drop l.i (numbers_of l.list)) ≡ numbers_of l.list)
