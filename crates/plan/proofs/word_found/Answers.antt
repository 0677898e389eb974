use native.Mathlib.Omega.{arith}
use Rattle.scan.proofs.Scans.{common_in}
use Rattle.plan.proofs.Finds.{found-whole, found_part}
use Rattle.plan.proofs.word_found.Goals as goal

pub returns-then-stands : goal.returns-then-stands
returns-then-stands c = found-whole c.args.s.now c.args.at c.args.word.now _ (c.stands.ensures c.if-stands.true).1 (omega arith)

pub returns-then-n-word : goal.returns-then-n-word
returns-then-n-word c = found_part c.args.s.now c.args.at c.args.word.now _ c.agrees-n.ensures c.if-n-word.true

pub overflow_add-result-2 : goal.overflow_add-result-2
overflow_add-result-2 c = omega (arith, common_in c.args.s.now c.args.word.now _ _ c.requires.0 c.agrees-n.ensures)

pub returns : goal.returns
returns c = found-whole c.args.s.now c.args.at c.args.word.now _ c.agrees-n.ensures c.if-n-word.false
