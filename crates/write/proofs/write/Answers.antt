use Rattle.std.proofs.lemmas.Result.{err_from_is_err_and}
use Rattle.write.proofs.Answers.{answered-bad}
use mathlib.Core.Path.{sym, ◌∙◌}
use Rattle.write.proofs.write.Goals as goal

pub returns-in_err-collections : goal.returns-in_err-collections
returns-in_err-collections c =
    let p = err_from_is_err_and c.from_residual.result c.from_residual.ensures.1 in
    let bad = answered-bad c.args.list.now c.args.ceiling c.args.out.now _ (sym c.judge_list.ensures ∙ c.in_err-collections.was) in
    rw (p.1, p.2) (record { result_value = bad.0; out_after = bad.1 })
