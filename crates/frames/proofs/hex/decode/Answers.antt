use Rattle.frames.specs.Hex.{unhex}
use Rattle.frames.proofs.Digits.{unhex-length, unhex-at}
use Rattle.frames.proofs.Strides.{set-go}
use lib.ListN.{length, get_or, length-set}
use lib.Seq.{ext_get_or}
use mathlib.Core.Path.{◌≡◌, sym}
use native.Mathlib.Omega.{arith}
use Prim.Native.Nat.{◌+◌, ◌*◌, ◌/◌, ◌<◌}
use Rattle.frames.proofs.hex.decode.Goals as goal

pub loop-i-2-preserved : goal.loop-i-2-preserved
loop-i-2-preserved c =
    let l = c.loop-i-2 in
    let d = c.args.digits.now in
    let i = l.i in
    let h : i < length d / 2 = omega arith in
    let vs = c.loop-i.values in
    let b = get_or vs (i * 2) 0 * 16 + get_or vs (i * 2 + 1) 0 in
    let e : b ≡ get_or (unhex d) i 0 = rw (c.loop-i.invariant.1 (i * 2) (omega arith), c.loop-i.invariant.1 (i * 2 + 1) (omega arith)) (sym (unhex-at d i h)) in
    (simp length-set l.invariant.0, set-go (λ k. get_or (unhex d) k 0) l.to i b (omega arith) e l.invariant.1)

pub returns : goal.returns
returns c =
    let l = c.loop-i-2 in
    let d = c.args.digits.now in
    ext_get_or 0 l.to (unhex d) (omega (arith, unhex-length d)) (λ k h. l.invariant.1 k (omega arith))
