-- `read_children` and `read_element`, which call each other, meet their contracts. The loop over children keeps `Kept`: what was to be read from the first place on
-- is what is to be read from here on. What falls is the number of bytes left; in the loop that, and then the number of rows left.
use Rattle.std.specs.Prelude.{◌+◌, ◌-◌, ◌*◌, length}
use Rattle.plan.specs.Plan.{rows_end}
use Rattle.reader.proofs.Going.{Kept}
use Rattle.reader.proofs.walk.+walk.Given as goal

abbrev pub decreases-read_children : goal.decreases-read_children
decreases-read_children l = (length l.s.now - l.from) * 2 + 1

abbrev pub decreases-read_element : goal.decreases-read_element
decreases-read_element l = (length l.s.now - l.at) * 2

abbrev pub invariant-read_children-loop-k : goal.invariant-read_children-loop-k
invariant-read_children-loop-k l =
    Kept l.t l.s l.e l.from l.initial.heard l.initial.slips l.initial.rows l.initial.running l.heard l.slips l.rows l.k l.at l.far l.running

abbrev pub decreases-read_children-loop-k : goal.decreases-read_children-loop-k
decreases-read_children-loop-k l = (length l.s - l.at) * (rows_end + 2) + (rows_end - l.k)
