use mathlib.Core.Bool.{true, and-false}
use mathlib.Core.Path.{◌≡◌, sym, ◌∙◌}
use lib.ListN.{length}
use Rattle.std.proofs.Common.{rules}
use Rattle.laws.specs.Bytes.{between}
use Rattle.laws.proofs.Loops.{span-whole, span-part}
use Rattle.marks.specs.Marks.{digit}
use Rattle.marks.proofs.Classes.{between_high}
use Rattle.text.proofs.number.count.Goals as goal
use Rattle.text.proofs.number.count.Goals.{Then-contains, else-contains-via-then-contains+else-digits-text, else-contains-via-else-contains}

few : (c : Then-contains) → between 1 15 (length c.args.text.now) ≡ true
few c = search rules

pub number-requires : goal.number-requires
number-requires c = (between_high 1 15 _ (few (goal.at.number-requires c).Then-contains), span-whole digit c.args.text.now (sym c.digits.ensures ∙ c.if-digits-text.true))

pub returns-then-digits-text : goal.returns-then-digits-text
returns-then-digits-text c =
    rw (few (goal.at.returns-then-digits-text c).Then-contains, span-whole digit c.args.text.now (sym c.digits.ensures ∙ c.if-digits-text.true), c.number.ensures)

pub returns-else-contains : goal.returns-else-contains
returns-else-contains c = elim c.else-contains.branch [
  | else-contains-via-then-contains+else-digits-text w ↦ rw (span-part digit c.args.text.now (λ e. w.if-digits-text.false (w.digits.ensures ∙ e)), and-false)
  | else-contains-via-else-contains w ↦ search rules
]
