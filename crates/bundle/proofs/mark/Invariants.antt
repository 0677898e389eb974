-- `bundle::mark` meets its contract. The invariant: `placed` of the first k collections have the code, and those have their labels.
use Rattle.bundle.specs.Labels.{Marked}
use Rattle.bundle.proofs.Loops.{Met}
use Rattle.bundle.proofs.mark.Given as goal

abbrev pub invariant-loop-k : goal.invariant-loop-k
invariant-loop-k l = Met l.codes l.code l.k l.placed × Marked l.ceiling l.first l.code l.codes l.initial.labels l.labels l.k
