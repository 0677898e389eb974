use mathlib.Core.Path.{◌∙◌}
use Rattle.marks.specs.Marks.{letter}
use Rattle.marks.proofs.Classes.{all_and_go}
use Rattle.marks.proofs.all_letters.Goals as goal

pub loop-c-preserved : goal.loop-c-preserved
loop-c-preserved c = let l = c.loop-c in
    rw c.is_letter-good.ensures (l.invariant ∙ all_and_go letter _ l.c-index c.loop-c-test.true l.good)
