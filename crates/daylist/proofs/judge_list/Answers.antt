use Rattle.daylist.proofs.Stops.{list-lines, lines-few, lines-many, lines-bad, lines-good}
use Rattle.frames.specs.Lines.{lines}
use Rattle.std.proofs.lemmas.Result.{err_from_is_err_and}
use mathlib.Core.Path.{sym, ◌∙◌}
use native.Mathlib.Omega.{arith}
use Rattle.daylist.proofs.judge_list.Goals as goal

pub returns-then-lines-lt2 : goal.returns-then-lines-lt2
returns-then-lines-lt2 c = sym (list-lines c.args.list.now c.args.ceiling (omega arith) (grind (arith, c.contains.ensures, c.if-not-contains.false)) ∙ lines-few (lines c.args.list.now) c.in_ok-lines.lines (sym c.judge_frames.ensures ∙ c.in_ok-lines.was) c.if-lines-lt2.true)

pub returns-then-lines-gt-LINES : goal.returns-then-lines-gt-LINES
returns-then-lines-gt-LINES c = sym (list-lines c.args.list.now c.args.ceiling (omega arith) (grind (arith, c.contains.ensures, c.if-not-contains.false)) ∙ lines-many (lines c.args.list.now) c.in_ok-lines.lines (sym c.judge_frames.ensures ∙ c.in_ok-lines.was) c.if-lines-lt2.false c.if-lines-gt-LINES.true)

pub returns-in_err-judge_values : goal.returns-in_err-judge_values
returns-in_err-judge_values c =
    let p = err_from_is_err_and c.from_residual-in_err-judge_values.result c.from_residual-in_err-judge_values.ensures.1 in
    rw (p.1, p.2) (sym (list-lines c.args.list.now c.args.ceiling (omega arith) (grind (arith, c.contains.ensures, c.if-not-contains.false)) ∙ lines-bad (lines c.args.list.now) c.in_ok-lines.lines (sym c.judge_frames.ensures ∙ c.in_ok-lines.was) c.if-lines-lt2.false c.if-lines-gt-LINES.false _ (sym c.judge_values.ensures ∙ c.in_err-judge_values.was)))

pub returns : goal.returns
returns c = sym (list-lines c.args.list.now c.args.ceiling (omega arith) (grind (arith, c.contains.ensures, c.if-not-contains.false)) ∙ lines-good (lines c.args.list.now) c.in_ok-lines.lines (sym c.judge_frames.ensures ∙ c.in_ok-lines.was) c.if-lines-lt2.false c.if-lines-gt-LINES.false _ (sym c.judge_values.ensures ∙ c.in_ok-judge_values.was))
