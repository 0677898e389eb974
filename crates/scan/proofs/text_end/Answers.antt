use native.Mathlib.Omega.{arith}
use borrow.Author.Rules.{rules}
use Rattle.tree.specs.Form.{in_text}
use Rattle.scan.proofs.Scans.{rest_in}
use Rattle.scan.proofs.text_end.Goals as goal

pub overflow_add-result-2 : goal.overflow_add-result-2
overflow_add-result-2 c = omega (arith, rest_in in_text c.args.s.now c.loop-i.i _ (omega arith) (c.run.ensures in_text (search rules)))
