use Rattle.put.proofs.Writes.{decimal-last, decimal-more, store_front}
use Rattle.put.specs.Numerals.{last_digit, decimal_of, decimal}
use Rattle.laws.specs.Bytes.{Bytes}
use lib.ListN.{length, drop, set, length-set}
use mathlib.Core.List.{[], ◌∷◌, ◌++◌, append_assoc}
use mathlib.Core.Path.{◌≡◌, sym, ◌∙◌}
use native.Mathlib.Omega.{arith}
use Prim.Native.Nat.{ℕ, ◌-◌, ◌/◌, ◌≤◌, ◌<◌}
use Rattle.put.proofs.digits_of.Goals as goal

module _ (n i left : ℕ) (s : Bytes) (v : ℕ) (h : 0 < i) (l : i ≤ length s) where
  -- the last digit is written
  wrote_last : left < 10 → v ≡ last_digit left → decimal n ≡ decimal_of i left ++ drop i s → drop (i - 1) (set s (i - 1) v) ≡ decimal n
  wrote_last k e f = store_front s i v h l ∙ rw e (sym (f ∙ rw (decimal-last i left h k)))

  -- one digit is, and others are left
  wrote_more : 10 ≤ left → v ≡ last_digit left → decimal n ≡ decimal_of i left ++ drop i s → decimal n ≡ decimal_of (i - 1) (left / 10) ++ drop (i - 1) (set s (i - 1) v)
  wrote_more k e f = f ∙ rw (decimal-more i left h k, store_front s i v h l, e) (append_assoc (decimal_of (i - 1) (left / 10)) (last_digit left ∷ []) (drop i s))

-- no digit is left to write
wrote_all : (n i left : ℕ) (s : Bytes) → i ≡ 0 → decimal n ≡ decimal_of i left ++ drop i s → drop 0 s ≡ decimal n
unfolding decimal_of
wrote_all n i left s e f = sym (f ∙ rw e)

pub returns-then-left-lt10 : goal.returns-then-left-lt10
returns-then-left-lt10 c =
    let l = c.loop-from in
    (omega arith, wrote_last c.args.n l.from l.left l.digits c.last_digit.result c.loop-from-test.true (omega arith) c.if-left-lt10.true c.last_digit.ensures l.invariant.2)

pub loop-from-preserved : goal.loop-from-preserved
loop-from-preserved c =
    let l = c.loop-from in (
      simp length-set l.invariant.0,
      omega arith,
      wrote_more c.args.n l.from l.left l.digits c.last_digit.result c.loop-from-test.true (omega arith) c.if-left-lt10.false c.last_digit.ensures l.invariant.2,
    )

pub returns : goal.returns
returns c = let l = c.loop-from in (omega arith, wrote_all c.args.n l.from l.left l.digits (omega arith) l.invariant.2)
