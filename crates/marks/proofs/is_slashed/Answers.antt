use mathlib.Core.Path.{sym}
use Rattle.marks.proofs.Slashes.{joined-slashed}
use Rattle.marks.proofs.is_slashed.Goals as goal

pub loop-c-init : goal.loop-c-init
loop-c-init c = sym (joined-slashed c.args.text.now c.requires)
