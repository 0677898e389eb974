-- `batched::Batches::put_transactions` meets its contract. The invariant: what is written, with what is left after it, is all of them.
use Rattle.batched.proofs.Going.{Going}
use Rattle.laws.specs.Lists.{gather}
use Rattle.bundle.specs.Labels.{pick}
use Rattle.collections.specs.Listed.{listed}
use Rattle.written.specs.Pieces.{transaction_bytes}
use lib.ListN.{drop}
use Prim.Native.Nat.{◌+◌, ◌*◌, ◌≤◌}
use Rattle.batched.proofs.Batches.put_transactions.Given as goal

abbrev pub invariant-loop-i : goal.invariant-loop-i
invariant-loop-i l = (l.out.at ≤ l.initial.out.at + 2_300 * l.i)
    × Going l.initial.out (gather transaction_bytes (pick l.batch l.self.labels.now (listed l.self.list.now))) l.out (gather transaction_bytes (pick l.batch (drop l.i l.self.labels.now) (drop l.i (listed l.self.list.now))))
