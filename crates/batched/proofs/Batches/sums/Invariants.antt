-- `batched::Batches::sums` meets its contract. The invariant: how many of the first i labels are the batch's, and what those collections come to.
use Rattle.batched.proofs.Picks.{Met, Summed}
use Rattle.collections.specs.Listed.{listed}
use Rattle.batched.proofs.Batches.sums.Given as goal

abbrev pub invariant-loop-i : goal.invariant-loop-i
invariant-loop-i l = Met l.batch l.self.labels.now l.i l.transactions × Summed (listed l.self.list.now) l.self.labels.now l.batch l.i l.cents
