use Rattle.daylist.proofs.Judging.{then, creditor_line, collection_line}
use Rattle.daylist.specs.Values.{JudgedLine, judged_texts, first_bad, judged_line}
use Rattle.frames.specs.Fields.{collection_fields}
use Rattle.frames.specs.Frames.{texts}
use Rattle.frames.specs.Hex.{unhex}
use Rattle.std.proofs.lemmas.Result.{err_from_is_err_and}
use Rattle.std.proofs.Common.{drop}
use mathlib.Core.Path.{◌≡◌, sym, ◌∙◌}
use Rattle.daylist.proofs.values.judge_line.Goals as goal
use Rattle.daylist.proofs.values.judge_line.Goals.{After-judge_lead}

-- a collection whose fields before the texts are judged l
judged : (c : After-judge_lead) (l : JudgedLine) → c.judge_lead.result ≡ l
    → judged_line c.args.number (unhex c.args.line.now) ≡ then l (first_bad 3 (judged_texts collection_fields (texts 8 (drop 8 (unhex c.args.line.now)))))
judged c l e = collection_line c.args.number (unhex c.args.line.now) l (sym e ∙ c.judge_lead.ensures) c.if-number-eq1.false

pub returns-then-number-eq1 : goal.returns-then-number-eq1
returns-then-number-eq1 c = c.judge_texts.ensures ∙ sym (creditor_line c.args.number (unhex c.args.line.now) c.if-number-eq1.true)

pub returns-in_err-judge_lead : goal.returns-in_err-judge_lead
returns-in_err-judge_lead c =
    let p = err_from_is_err_and c.from_residual.result c.from_residual.ensures.1 in
    rw (p.1, p.2) (sym (judged (goal.at.returns-in_err-judge_lead c).After-judge_lead _ c.in_err-judge_lead.was))

pub returns : goal.returns
returns c = c.judge_texts-2.ensures ∙ sym (judged (goal.at.returns c).After-judge_lead _ c.in_ok-judge_lead.was)
