use Rattle.frames.specs.Lines.{not_end}
use Rattle.frames.proofs.Seen.{span_stretch}
use lib.ListN.{length}
use mathlib.Core.Path.{sym, ◌∙◌}
use native.Mathlib.Omega.{arith}
use Prim.Native.Nat.{◌+◌, ◌≤◌}
use Rattle.frames.proofs.lines.stretches.Goals as goal

pub loop-at-preserved : goal.loop-at-preserved
loop-at-preserved c =
    let l = c.loop-at in
    let s = c.args.text.now in
    let w = c.args.width in
    let h : l.at + w ≤ length s = omega arith in
    (h, l.invariant.1 ∙ span_stretch not_end s l.at w h (sym c.is_within.ensures ∙ c.if-not-is_within.false))
