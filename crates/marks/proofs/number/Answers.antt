use native.Mathlib.Omega.{arith}
use Rattle.marks.proofs.Numbers.{tens_room}
use Rattle.marks.proofs.number.Goals as goal

pub overflow_mul-v : goal.overflow_mul-v
overflow_mul-v c = let l = c.loop-c in omega (arith, tens_room l.v l.c-index l.invariant.0 (omega arith))

pub overflow_add-v : goal.overflow_add-v
overflow_add-v c = let l = c.loop-c in omega (arith, tens_room l.v l.c-index l.invariant.0 (omega arith), c.type_inv.text l.c-index)
