use native.Mathlib.Omega.{arith}
use Rattle.marks.specs.Ranks.{at_least}
use Rattle.scan.proofs.Scans.{run_in}
use Rattle.look.proofs.Looks.{plain-text}
use Rattle.look.proofs.look_plain.Goals as goal

pub bounds-s-end : goal.bounds-s-end
bounds-s-end c = omega (arith, c.if-end-s.false, run_in (at_least c.args.least) c.args.s.now c.args.at _ c.requires.0 c.run_end-end.ensures)

pub returns : goal.returns
returns c =
    let e = c.run_end-end.ensures in
    let w = run_in (at_least c.args.least) c.args.s.now c.args.at _ c.requires.0 e in
    plain-text c.args.least c.requires.1.1 c.args.s.now c.args.at _ c.args.longest c.requires.0 e (omega (arith, c.if-end-s.false, w)) (omega arith) c.if-end-at.false (omega arith)
