use mathlib.Core.Path.{◌≡◌, sym, ◌∙◌, ap}
use lib.ListN.{take, drop}
use Rattle.std.proofs.lemmas.Result.{err_from_is_err_and}
use Rattle.text.specs.Rules.{date, clock}
use Rattle.text.proofs.Days.{time-bad, time-after}
use Rattle.text.proofs.date.time.Goals as goal
use Rattle.text.proofs.date.time.Goals.{After-date, After-is_clock}

day : (c : After-date) → date (take 10 c.args.text.now) ≡ c.date.result
day c = ap date (sym c.in-Some.ensures.cases.1) ∙ sym c.date.ensures

behind : (c : After-is_clock) → clock (drop 10 c.args.text.now) ≡ c.is_clock.result
behind c = ap clock (sym c.in-Some.ensures.cases.2) ∙ sym c.is_clock.ensures

pub returns-in_err-date : goal.returns-in_err-date
returns-in_err-date c = let p = err_from_is_err_and c.from_residual.result c.from_residual.ensures.1 in rw (p.1, p.2) (time-bad c.args.text.now _ (day (goal.at.returns-in_err-date c).After-date ∙ c.in_err-date.was))

pub returns-then-not-is_clock : goal.returns-then-not-is_clock
returns-then-not-is_clock c =
    let a = goal.at.returns-then-not-is_clock c in
    time-after c.args.text.now _ _ (day a.After-date ∙ c.in_ok-date.was) (behind a.After-is_clock ∙ c.if-not-is_clock.true)

pub returns : goal.returns
returns c = let a = goal.at.returns c in time-after c.args.text.now _ _ (day a.After-date ∙ c.in_ok-date.was) (behind a.After-is_clock ∙ c.if-not-is_clock.false)
