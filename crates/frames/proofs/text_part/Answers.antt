use Rattle.frames.proofs.Parts.{come_start, come_go, come_there, come_part}
use Rattle.frames.proofs.Digits.{unhex-length}
use Rattle.frames.specs.Hex.{unhex}
use lib.ListN.{get_or}
use mathlib.Core.Path.{◌≡◌}
use native.Mathlib.Omega.{arith}
use Prim.Native.Nat.{◌+◌}
use Rattle.frames.proofs.text_part.Goals as goal

pub overflow_add-at : goal.overflow_add-at
overflow_add-at c =
    let s = unhex c.args.line.now in
    let f = c.args.frame in
    omega (arith, come_there f s 0 (1 + f.lead) (come_start f s c.requires.0) (omega (arith, c.requires.1)), unhex-length c.args.line.now)

pub loop-init : goal.loop-init
loop-init c = come_start c.args.frame (unhex c.args.line.now) c.requires.0

pub overflow_add-at-in-loop-2 : goal.overflow_add-at-in-loop-2
overflow_add-at-in-loop-2 c = omega (arith, come_there c.args.frame (unhex c.args.line.now) c.loop.counter c.loop.at c.loop.invariant (omega (arith, c.requires.1)), unhex-length c.args.line.now)

pub loop-preserved : goal.loop-preserved
loop-preserved c =
    let l = c.loop in
    let e : l.at + (1 + c.from.result) ≡ l.at + 1 + get_or (unhex c.args.line.now) l.at 0 = omega arith in
    rw e (come_go c.args.frame (unhex c.args.line.now) l.counter l.at l.invariant (omega (arith, c.requires.1)))

pub overflow_add-result : goal.overflow_add-result
overflow_add-result c = omega (arith, come_there c.args.frame (unhex c.args.line.now) c.loop.counter c.loop.at c.loop.invariant (omega (arith, c.requires.1)), unhex-length c.args.line.now)

pub overflow_mul-result : goal.overflow_mul-result
overflow_mul-result c = omega (arith, come_there c.args.frame (unhex c.args.line.now) c.loop.counter c.loop.at c.loop.invariant (omega (arith, c.requires.1)), unhex-length c.args.line.now)

pub returns : goal.returns
returns c =
    let l = c.loop in
    let x = c.args in
    let e : l.counter ≡ x.i = omega arith in
    rw (c.from-size.ensures, c.byte_at-2.ensures, ← e) (come_part x.frame (unhex x.line.now) l.counter l.at l.invariant (omega (arith, c.requires.1)))
