-- `write::message::put_batches` meets its contract. The invariant: what is written, with the batches from this one on after it, is all of them.
use Rattle.batched.proofs.Going.{Going}
use Rattle.batched.specs.Ready.{creditor_at, batch_room, batches_from}
use Rattle.collections.specs.Listed.{listed}
use Rattle.written.specs.Pieces.{batches_bytes}
use Prim.Native.Nat.{◌+◌, ◌-◌, ◌*◌, ◌≤◌}
use Rattle.write.proofs.message.put_batches.Given as goal

abbrev pub invariant-loop-batch : goal.invariant-loop-batch
invariant-loop-batch l = (l.out.at ≤ l.initial.out.at + batch_room * l.batch)
    × Going l.initial.out (batches_bytes (creditor_at l.batches.list.now) 1 (batches_from 0 l.batches.count l.batches.labels.now (listed l.batches.list.now))) l.out
    (batches_bytes (creditor_at l.batches.list.now) (l.batch + 1) (batches_from l.batch (l.batches.count - l.batch) l.batches.labels.now (listed l.batches.list.now)))
