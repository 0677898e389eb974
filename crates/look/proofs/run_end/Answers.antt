use native.Mathlib.Omega.{arith}
use borrow.Author.Rules.{rules}
use Rattle.marks.specs.Ranks.{at_least}
use Rattle.scan.proofs.Scans.{rest_in}
use Rattle.look.proofs.run_end.Goals as goal

pub overflow_add-result-2 : goal.overflow_add-result-2
overflow_add-result-2 c = omega (arith, rest_in (at_least c.args.least) c.args.s.now c.loop-i.i _ (omega arith) (c.run.ensures (at_least c.args.least) (search rules)))
