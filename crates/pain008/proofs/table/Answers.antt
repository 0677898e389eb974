-- `pain008::table` meets its contract: both tests are computed.
use Rattle.marks.specs.Ranks.{ranked}
use Rattle.plan.specs.Plan.{cell, place, open_tag, close_tag, kind_of}
use Rattle.pain008.proofs.table.Goals as goal

pub returns-clause-tree : goal.returns-clause-tree
unfolding cell place open_tag close_tag kind_of
returns-clause-tree c = tt

pub returns-clause-ranks : goal.returns-clause-ranks
unfolding ranked
returns-clause-ranks c = tt
