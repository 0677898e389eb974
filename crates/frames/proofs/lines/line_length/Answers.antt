use Rattle.std.proofs.Common.{rules, tests, drop, ◌≡◌}
use Rattle.laws.specs.Bytes.{span}
use Rattle.laws.proofs.Loops.{drop-part, span_le}
use Rattle.frames.specs.Lines.{not_end}
use lib.ListN.{length-drop}
use mathlib.Core.Path.{ap, ◌∙◌}
use native.Mathlib.Omega.{arith}
use Rattle.frames.proofs.lines.line_length.Goals as goal
use Rattle.frames.proofs.lines.line_length.Goals.{After-run}

-- the run is what stands before LF of all that is left
left : (c : After-run) → c.run.result ≡ span not_end (drop c.stretches-near.result c.args.text.now)
left c = c.run.ensures not_end (λ x b h q. search (rules, tests)) ∙ ap (span not_end) (drop-part c.stretches-near.result c.args.text.now)

pub overflow_add-result : goal.overflow_add-result
overflow_add-result c =
    let d = drop c.stretches-near.result c.args.text.now in
    omega (arith, left (goal.at.overflow_add-result c).After-run, span_le not_end d, length-drop c.stretches-near.result c.args.text.now, c.stretches-near.ensures.0)

pub returns : goal.returns
returns c = omega (arith, left (goal.at.returns c).After-run, c.stretches-near.ensures.1)
