use native.Mathlib.Nat.{mod-lt}
use native.Mathlib.Omega.{arith}
use mathlib.Core.Path.{◌∙◌}
use Rattle.std.proofs.lemmas.Grind.{common_steps}
use Rattle.marks.proofs.Numbers.{remainder_append}
use Rattle.marks.proofs.remainder.Goals as goal

pub loop-eight-preserved : goal.loop-eight-preserved
loop-eight-preserved c =
    let l = c.loop-eight in
    let s = c.in-Some.ensures.steps in
    (cc, mod-lt _ (omega arith), grind (arith, common_steps), rw c.spelled-v.ensures (rw s.1.0 at l.invariant.3 ∙ remainder_append 97 l.v c.in-Some.eight.now _))
