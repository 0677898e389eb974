use Rattle.events.proofs.Events.{begins_transaction}
use Rattle.events.proofs.begin_transaction.Goals as goal

pub returns : goal.returns
returns c =
    let a = c.args in
    begins_transaction a.place a.start a.size _ a.heard.now _ _ _ a.tally _ a.slips.now _ c.settle-settled.ensures.tally c.settle-settled.ensures.slips c.judge.ensures
    c.forget.ensures c.count_transaction.ensures c.say.ensures
