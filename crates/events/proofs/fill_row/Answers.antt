use Rattle.laws.proofs.Puts.{row_of_sets}
use Rattle.heard.specs.State.{row_numbers}
use Rattle.heard.specs.Row.{row_of}
use Rattle.events.proofs.fill_row.Goals as goal

pub returns : goal.returns
returns c =
    rw (c.last_said-scheme.ensures, c.last_said-sequence.ensures, c.last_said-count.ensures, c.last_said-sum.ensures)
    (row_of_sets (row_numbers (row_of c.args.heard.now).said c.args.tally) c.args.row.now c.requires.0)
