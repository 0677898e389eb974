use Rattle.daylist.proofs.Walking.{value_judged, values_walked}
use Rattle.frames.specs.Lines.{lines}
use Rattle.std.proofs.Common.{rules, tests}
use mathlib.Core.Path.{◌∙◌}
use Rattle.daylist.proofs.stages.judge_values.Goals as goal

pub returns : goal.returns
returns c = c.each_line.ensures value_judged (λ s e n r q. search (rules, tests)) ∙ values_walked 0 (lines c.args.list.now)
