use Rattle.daylist.proofs.Ends.{part-is}
use Rattle.batched.proofs.Batches.collection.Goals as goal

pub invariant_of-result : goal.invariant_of-result
invariant_of-result c = record { framed = rw (part-is c.args.self.now.list.now c.start_of-start.result _ c.line_end-end.ensures.0) c.start_of-start.ensures.holds_frame }

pub returns : goal.returns
returns c = rw (part-is c.args.self.now.list.now c.start_of-start.result _ c.line_end-end.ensures.0) c.start_of-start.ensures.value
