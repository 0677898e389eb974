use mathlib.Core.Path.{ap, ◌∙◌}
use Rattle.laws.specs.Bytes.{Bytes}
use Rattle.plan.specs.Plan.{found}
use Rattle.plan.proofs.Words.{open_is}
use Rattle.plan.proofs.opens.Goals as goal

pub returns : goal.returns
returns c = c.word_found.ensures ∙ ap (λ (w : Bytes). found c.args.s.now c.args.at w) (open_is c.args.t.now c.args.k _ _ c.place_of-o.ensures c.number.ensures.0)
