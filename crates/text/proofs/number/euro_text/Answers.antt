use Prim.Native.Nat.{◌+◌, ◌*◌, ◌^◌, ◌<◌, ◌≤◌}
use native.Mathlib.Omega.{arith}
use mathlib.Core.Bool.{true}
use mathlib.Core.Path.{◌≡◌, sym, ◌∙◌, ap}
use lib.ListN.{length}
use Rattle.std.proofs.Common.{rules}
use Rattle.laws.specs.Bytes.{between}
use Rattle.marks.proofs.Classes.{between_high}
use Rattle.text.proofs.Euros.{tail, whole_le, whole-digits, euros-under}
use Rattle.text.proofs.number.euro_text.Goals as goal
use Rattle.text.proofs.number.euro_text.Goals.{Else-not-contains, After-number}

-- the whole euros are few enough
few : (c : Else-not-contains) → length c.split_at.result.0.now ≤ c.args.longest
few c = let b : between 1 c.args.longest (length c.split_at.result.0.now) ≡ true = search rules in between_high 1 _ _ b

-- and so are the cents
small : (c : After-number) → length c.split_at.result.0.now ≤ c.args.longest → c.number.result * 100 + c.in_ok-h.h < 10 ^ 17
small c m =
    let part = c.split_at.ensures in
    rw (c.number.ensures, part.front) (euros-under c.digits.result c.args.text.now c.digits.ensures _ (ap tail (sym part.back) ∙ sym c.behind_point.ensures ∙ c.in_ok-h.was) (omega (arith, part.front_len)))

pub split_at-requires : goal.split_at-requires
split_at-requires c = whole_le c.digits.result c.args.text.now c.digits.ensures

pub number-requires : goal.number-requires
number-requires c = (omega (arith, few (goal.at.number-requires c).Else-not-contains), rw c.split_at.ensures.front (whole-digits c.digits.result c.args.text.now c.digits.ensures))

pub overflow_mul-result : goal.overflow_mul-result
overflow_mul-result c = let a = goal.at.overflow_mul-result c in omega (arith, small a.After-number (few a.Else-not-contains))

pub overflow_add-result : goal.overflow_add-result
overflow_add-result c = let a = goal.at.overflow_add-result c in omega (arith, small a.After-number (few a.Else-not-contains))
