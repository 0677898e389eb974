use native.Mathlib.Omega.{arith}
use borrow.Author.Rules.{rules}
use Rattle.tree.specs.Form.{white}
use Rattle.scan.proofs.Scans.{rest_in}
use Rattle.scan.proofs.white_end.Goals as goal

pub overflow_add-result : goal.overflow_add-result
overflow_add-result c = omega (arith, rest_in white c.args.s.now c.args.at _ (omega arith) (c.run.ensures white (search rules)))
