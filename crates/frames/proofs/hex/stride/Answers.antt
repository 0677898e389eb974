use Rattle.frames.proofs.Digits.{unhex-length}
use Rattle.frames.proofs.Strides.{stride_digits}
use Rattle.frames.specs.Hex.{unhex}
use Rattle.laws.specs.Put.{put_at}
use Rattle.laws.proofs.Puts.{put_back}
use lib.Seq.{length-take-le}
use lib.ListN.{length, take, drop, length-drop}
use mathlib.Core.Path.{◌≡◌, ap, ◌∙◌}
use Prim.Native.Nat.{◌+◌}
use native.Mathlib.Omega.{arith}
use Rattle.frames.proofs.hex.stride.Goals as goal

pub overflow_mul-at : goal.overflow_mul-at
overflow_mul-at c = omega (arith, unhex-length c.args.line.now, c.requires.width_in_bounds)

pub overflow_add-at : goal.overflow_add-at
overflow_add-at c = omega (arith, unhex-length c.args.line.now, c.requires.width_in_bounds)

pub slice_bounds-decode-end : goal.slice_bounds-decode-end
slice_bounds-decode-end c = omega (arith, unhex-length c.args.line.now, c.requires.width_in_bounds)

pub returns : goal.returns
returns c =
    let a = c.args in
    let u = unhex a.line.now in
    let ys = c.decode.new.to in
    let e : ys ≡ take a.width (drop a.place u) = c.decode.ensures ∙ stride_digits a.line.now a.place a.width in
    let n : length ys ≡ a.width = ap length e ∙ length-take-le a.width (drop a.place u) (omega (arith, c.requires.width_in_bounds, length-drop a.place u)) in
    put_back a.out.now ys a.to (a.to + a.width) (omega arith) (omega (arith, n)) ∙ ap (put_at a.out.now a.to) e
