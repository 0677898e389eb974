use mathlib.Core.Path.{ap, ◌∙◌}
use Rattle.laws.specs.Bytes.{Bytes}
use Rattle.plan.specs.Plan.{found}
use Rattle.plan.proofs.Words.{close-is}
use Rattle.plan.proofs.closes.Goals as goal

pub returns : goal.returns
returns c =
    c.word_found.ensures ∙ ap (λ (w : Bytes). found c.args.s.now c.args.at w) (close-is c.args.t.now c.args.k _ _ c.place_of.ensures _ c.number.ensures.0 c.number-2.ensures.0)
