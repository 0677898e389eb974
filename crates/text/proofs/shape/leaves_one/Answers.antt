use native.Mathlib.Nat.{mod-lt}
use native.Mathlib.Omega.{arith}
use Rattle.marks.specs.Marks.{letter_or_digit}
use Rattle.marks.proofs.Classes.{class_part}
use Rattle.text.proofs.Shapes.{leaves-twice}
use Rattle.text.proofs.shape.leaves_one.Goals as goal

pub remainder-left-requires : goal.remainder-left-requires
remainder-left-requires c = (omega arith, search (class_part letter_or_digit c.args.text.now, c.requires.2))

pub remainder-requires : goal.remainder-requires
remainder-requires c = (rw c.remainder-left.ensures (mod-lt _ (omega arith)), class_part letter_or_digit c.args.text.now 4 0 c.requires.2)

pub returns : goal.returns
returns c =
    let first = c.remainder-left in
    rw (leaves-twice c.args.text.now c.args.rest (omega arith) first.result c.remainder.result first.ensures c.remainder.ensures)
