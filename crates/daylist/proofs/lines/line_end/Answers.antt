use Rattle.daylist.proofs.Ends.{end_is, end-within}
use native.Mathlib.Omega.{arith}
use Rattle.daylist.proofs.lines.line_end.Goals as goal

pub overflow_add-result : goal.overflow_add-result
overflow_add-result c = omega (arith, end-within c.args.list.now c.args.start _ c.line_length.ensures c.requires)

pub returns : goal.returns
returns c = (end_is c.args.list.now c.args.start _ c.line_length.ensures, end-within c.args.list.now c.args.start _ c.line_length.ensures c.requires)
