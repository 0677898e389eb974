use Rattle.heard.specs.Row.{state_of}
use Rattle.events.proofs.Events.{begins_batch}
use Rattle.events.proofs.begin_batch.Goals as goal

pub returns : goal.returns
returns c =
    let a = c.args in
    begins_batch a.place a.start a.size _ _ _ _ _ _ _ _ _ (state_of a.heard.now a.tally a.slips.now a.rows.now) c.shut-closed.ensures c.begin_mixes.ensures
    c.forget.ensures c.count_batch.ensures c.say.ensures c.begin_batch.ensures
