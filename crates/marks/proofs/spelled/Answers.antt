use native.Mathlib.Omega.{arith}
use lib.ListN.{get_or}
use Rattle.marks.proofs.Classes.{value_le}
use Rattle.marks.proofs.Numbers.{hundreds_room}
use Rattle.marks.proofs.spelled.Goals as goal

pub overflow_mul-v : goal.overflow_mul-v
overflow_mul-v c = let l = c.loop-c in omega (arith, hundreds_room l.v l.c-index l.invariant.0 (omega arith))

pub overflow_add-v : goal.overflow_add-v
overflow_add-v c = let l = c.loop-c in omega (arith, hundreds_room l.v l.c-index l.invariant.0 (omega arith), c.type_inv.text l.c-index)

pub overflow_mul-v-in_default : goal.overflow_mul-v-in_default
overflow_mul-v-in_default c = let l = c.loop-c in omega (arith, hundreds_room l.v l.c-index l.invariant.0 (omega arith))

pub overflow_add-v-in_default : goal.overflow_add-v-in_default
overflow_add-v-in_default c = let l = c.loop-c in omega (arith, hundreds_room l.v l.c-index l.invariant.0 (omega arith), c.letter_number.ensures, value_le (get_or c.args.text.now l.c-index 0), c.type_inv.text l.c-index)
