use mathlib.Core.Path.{refl, subst}
use Rattle.std.proofs.lemmas.Result.{err_from_is_err_and}
use Rattle.answer.specs.Said.{Checked}
use Rattle.promise.specs.Check.{room_of}
use Rattle.checking.specs.Inner.{Verdicts}
use Rattle.checking.proofs.Passes.{check_refused, check_accepted}
use Rattle.checking.proofs.check.Goals as goal

pub returns-in_err-totals : goal.returns-in_err-totals
returns-in_err-totals c =
    let a = c.args in
    let p = err_from_is_err_and c.from_residual.result c.from_residual.ensures.1 in
    rw (p.1, p.2) (check_refused a.message.now a.slips.now a.rows.now _ _ _ (subst (λ (r : Checked). Verdicts a.message.now (room_of a.slips.now a.rows.now) r) c.in_err-totals.was c.pass.ensures.verdict) refl refl)

pub returns : goal.returns
returns c =
    let a = c.args in
    check_accepted a.message.now a.slips.now a.rows.now _ _ _ (subst (λ (r : Checked). Verdicts a.message.now (room_of a.slips.now a.rows.now) r) c.in_ok-totals.was c.pass.ensures.verdict) c.pass-2.ensures.fills
