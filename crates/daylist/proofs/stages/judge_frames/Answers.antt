use Rattle.daylist.proofs.Walking.{frame_judged, frames_walked}
use Rattle.frames.specs.Lines.{lines}
use Rattle.std.proofs.Common.{rules, tests}
use mathlib.Core.Path.{◌∙◌}
use Rattle.daylist.proofs.stages.judge_frames.Goals as goal

pub returns : goal.returns
returns c = c.each_line.ensures frame_judged (λ s e n r q. search (rules, tests)) ∙ frames_walked 0 (lines c.args.list.now)
