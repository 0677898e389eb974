use Rattle.std.proofs.lemmas.Result.{err_from_is_err_and}
use Rattle.tree.specs.Pain008.{document}
use Rattle.tree.proofs.Pain008.{profile_ok}
use Rattle.plan.proofs.Held.{held}
use Rattle.checking.proofs.Passes.{Walked, walked, within-begun, small, totals-fit, verdict-refused, verdict-judged, filled-refused, filled}
use Rattle.checking.proofs.pass.Goals as goal
use Rattle.checking.proofs.pass.Goals.{After-read}

pub read-requires : goal.read-requires
read-requires c =
    let p = c.requires in (
      within-begun c.fresh-heard.result c.fresh.result.tally c.fresh-heard.ensures c.fresh.ensures,
      (record { element = document; held = p.0; ranks = p.1 }, (held _ 0 document p.0).is-kind),
    )

-- the message was walked
walk : (c : After-read) → Walked c.args.message.now c.args.a.now c.args.b.now c.read.new.slips c.read.new.rows c.read.new.heard c.read.result
walk c = walked c.fresh-heard.result c.fresh.result.tally c.fresh-heard.ensures c.fresh.ensures (c.read.ensures.right document profile_ok c.requires.0) c.read.ensures.within

pub returns-in_err-tally-clause-verdict : goal.returns-in_err-tally-clause-verdict
returns-in_err-tally-clause-verdict c =
    let p = err_from_is_err_and c.from_residual.result c.from_residual.ensures.1 in
    rw (p.1, p.2) (verdict-refused (walk (goal.at.returns-in_err-tally-clause-verdict c).After-read) _ _ c.in_err-tally.was)

pub returns-in_err-tally-clause-fills : goal.returns-in_err-tally-clause-fills
returns-in_err-tally-clause-fills c = filled-refused (walk (goal.at.returns-in_err-tally-clause-fills c).After-read) _ _ _ c.in_err-tally.was

pub finish-totals-requires : goal.finish-totals-requires
finish-totals-requires c = small (walk (goal.at.finish-totals-requires c).After-read) _ c.in_ok-tally.was

pub answer-requires : goal.answer-requires
answer-requires c = totals-fit (walk (goal.at.answer-requires c).After-read) _ c.in_ok-tally.was _ _ _ _ c.finish-totals.ensures

pub returns-clause-verdict : goal.returns-clause-verdict
returns-clause-verdict c = verdict-judged (walk (goal.at.returns-clause-verdict c).After-read) _ c.in_ok-tally.was _ _ _ _ c.finish-totals.ensures _ _ c.answer.ensures

pub returns-clause-fills : goal.returns-clause-fills
returns-clause-fills c = filled (walk (goal.at.returns-clause-fills c).After-read) _ c.in_ok-tally.was _ _ _ _ c.finish-totals.ensures
