use Rattle.daylist.proofs.Leads.{high_start, high_go, high_more, high_under}
use Rattle.frames.proofs.Digits.{unhex-length}
use Rattle.frames.specs.Hex.{unhex}
use lib.ListN.{get_or}
use mathlib.Core.Path.{◌≡◌, ◌∙◌}
use native.Mathlib.Omega.{arith}
use Prim.Native.Nat.{◌-◌, ◌+◌}
use Rattle.daylist.proofs.values.high_first.Goals as goal

pub loop-at-init : goal.loop-at-init
loop-at-init c =
    let x = c.args in
    let e : x.from - x.from ≡ 0 = omega arith in
    ((omega arith, rw e (omega arith)), high_start (unhex x.line.now) x.from x.count c.min-end.result (rw (unhex-length x.line.now) c.min-end.ensures))

pub overflow_mul-v : goal.overflow_mul-v
overflow_mul-v c = let l = c.loop-at in let x = c.args in omega (arith, c.min-end.ensures, high_under l.v (l.at - x.from) l.invariant.0.1 6 (omega (arith, c.min-end.ensures, c.requires)))

pub overflow_add-v : goal.overflow_add-v
overflow_add-v c = let l = c.loop-at in let x = c.args in omega (arith, c.min-end.ensures, c.from.ensures, high_under l.v (l.at - x.from) l.invariant.0.1 6 (omega (arith, c.min-end.ensures, c.requires)))

pub loop-at-preserved : goal.loop-at-preserved
loop-at-preserved c =
    let l = c.loop-at in
    let x = c.args in
    let s = unhex x.line.now in
    let b : c.from.result ≡ get_or s l.at 0 = c.from.ensures ∙ c.byte_at.ensures in
    let d : l.at + 1 - x.from ≡ l.at - x.from + 1 = omega arith in (
      (omega arith, rw d (high_more l.v (l.at - x.from) l.invariant.0.1 c.from.result (omega (arith, c.from.ensures)))),
      l.invariant.1 ∙ rw b (high_go l.v s l.at c.min-end.result c.loop-at-test.true (omega (arith, c.min-end.ensures, unhex-length x.line.now))),
    )
