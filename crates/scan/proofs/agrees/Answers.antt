use native.Mathlib.Omega.{arith}
use Rattle.scan.proofs.Scans.{common-miss, common-out, common-whole}
use Rattle.scan.proofs.agrees.Goals as goal
use Rattle.scan.proofs.agrees.Goals.{then-at-i-via-then-at-i, then-at-i-via-else-at-i+then-s-at}

pub returns-then-at-i : goal.returns-then-at-i
returns-then-at-i c =
    let a = c.args in
    let l = c.loop-i in
    elim c.then-at-i.branch [
      | then-at-i-via-then-at-i w ↦ omega (arith, common-out a.s.now a.word.now a.at l.i (omega arith))
      | then-at-i-via-else-at-i+then-s-at w ↦ omega (arith, common-miss a.s.now a.word.now a.at l.i (omega arith) (omega arith) w.if-s-at.true)
    ]

pub returns : goal.returns
returns c = let a = c.args in omega (arith, c.loop-i.invariant, common-whole a.s.now a.word.now a.at c.loop-i.i (omega arith))
