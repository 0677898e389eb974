use Rattle.frames.specs.Hex.{unhex}
use Rattle.frames.proofs.Digits.{unhex-length}
use Rattle.frames.proofs.Strides.{stride_go, stride_length, stride_end}
use Rattle.laws.specs.Put.{put_at}
use lib.Seq.{take-take, drop-drop}
use lib.ListN.{length, take, drop, length-drop}
use mathlib.Core.Path.{◌≡◌, ap, sym, ◌∙◌}
use native.Mathlib.Omega.{arith}
use Prim.Native.Nat.{ℕ, ◌+◌, ◌-◌, ◌≤◌}
use Rattle.frames.proofs.hex.in_strides.Goals as goal

pub overflow_add-place : goal.overflow_add-place
overflow_add-place c = omega (arith, c.requires.out_in_bounds, unhex-length c.args.line.now)

pub loop-i-preserved : goal.loop-i-preserved
loop-i-preserved c =
    let a = c.args in
    let l = c.loop-i in
    let r : (l.i + a.width ≤ length l.out) × (l.i + a.width ≤ length (drop a.place (unhex a.line.now))) =
    (omega (arith, l.invariant.0), omega (arith, c.requires.out_in_bounds, length-drop a.place (unhex a.line.now))) in
    let e : c.stride.new.out ≡ put_at l.out l.i (take a.width (drop l.i (drop a.place (unhex a.line.now)))) = rw (drop-drop l.i a.place (unhex a.line.now)) c.stride.ensures in (
      ap length e ∙ stride_length l.out (drop a.place (unhex a.line.now)) l.i a.width r.1 l.invariant.1.1 r.0 ∙ l.invariant.0,
      (omega (arith, l.invariant.0, r.0), ap (take (l.i + a.width)) e ∙ stride_go l.out (drop a.place (unhex a.line.now)) l.i a.width r.1 l.invariant.1.1 r.0),
    )

pub overflow_add-place-2 : goal.overflow_add-place-2
overflow_add-place-2 c = omega (arith, c.requires.out_in_bounds, unhex-length c.args.line.now)

pub returns : goal.returns
returns c =
    let a = c.args in
    let l = c.loop-i in
    let last = length a.out.now - a.width in
    let le : last ≤ l.i = omega arith in
    let f : take last l.out ≡ take last (drop a.place (unhex a.line.now)) = sym (take-take last l.i l.out le) ∙ ap (take last) l.invariant.1.1 ∙ take-take last l.i (drop a.place (unhex a.line.now)) le in
    let e : c.stride-2.new.out ≡ put_at l.out last (take a.width (drop last (drop a.place (unhex a.line.now)))) = rw (drop-drop last a.place (unhex a.line.now)) c.stride-2.ensures in
    e ∙ stride_end l.out (drop a.place (unhex a.line.now)) last a.width (omega (arith, c.requires.out_in_bounds, length-drop a.place (unhex a.line.now))) f (omega (arith, l.invariant.0)) ∙ ap (λ (m : ℕ). take m (drop a.place (unhex a.line.now))) l.invariant.0
