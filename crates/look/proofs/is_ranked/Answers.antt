use native.Mathlib.Omega.{arith}
use Rattle.marks.proofs.Ranks.{ranks-long}
use Rattle.look.proofs.Looks.{ranked-byte}
use Rattle.look.proofs.is_ranked.Goals as goal

pub bounds-t-from : goal.bounds-t-from
bounds-t-from c = omega (arith, ranks-long c.args.t.now c.requires)

pub returns : goal.returns
returns c = ranked-byte c.args.t.now c.requires _ c.args.c c.args.least c.from.ensures (omega arith)
