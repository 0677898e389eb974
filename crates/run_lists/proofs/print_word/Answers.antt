-- What stands before the first byte that is no digit is a number.
use Rattle.laws.proofs.Loops.{all-span, span_le}
use Rattle.laws.proofs.Tests.{T_true}
use Rattle.laws.specs.Bytes.{Bytes, all, span}
use Rattle.marks.specs.Marks.{digit}
use Prim.Native.Nat.{ℕ}
use lib.ListN.{take}
use mathlib.Core.Bool.{true}
use mathlib.Core.Path.{◌≡◌}
use native.Mathlib.Omega.{arith}
use Rattle.run_lists.proofs.print_word.Goals as goal

-- the front of a word is all digits
front : (s : Bytes) (n : ℕ) → n ≡ span digit s → all digit (take n s) ≡ true
front s n e = rw e (T_true _ (all-span digit s))

pub split_at-requires : goal.split_at-requires
split_at-requires g c = omega (arith, c.digits.ensures, span_le digit c.args.word.now)

pub number-requires : goal.number-requires
number-requires g c = (omega (arith, c.split_at.ensures.front_len), rw c.split_at.ensures.front (front c.args.word.now c.digits.result c.digits.ensures))
