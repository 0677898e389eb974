use Rattle.heard.specs.State.{fresh}
use Rattle.heard.specs.Row.{row_of}
use Rattle.heard.proofs.Unsaid.{none_said}
use Rattle.heard.proofs.Heard.fresh.Goals as goal

pub returns : goal.returns
unfolding row_of
returns c slips rows = λ i. record (fresh slips rows) { said = λ p. none_said 23 p i }
