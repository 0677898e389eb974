use native.Mathlib.Omega.{arith}
use mathlib.Core.Path.{sym, ◌∙◌}
use Rattle.std.proofs.lemmas.Result.{err_from_is_err_and}
use Rattle.tree.specs.Form.{white}
use Rattle.heard.proofs.Bounds.{within_more}
use Rattle.reader.specs.Read.{Answers}
use Rattle.scan.proofs.Scans.{run_in}
use Rattle.plan.proofs.Finds.{is_whole, whole_in}
use Rattle.plan.proofs.Held.{known_in}
use Rattle.reader.proofs.Going.{fine-ended}
use Rattle.reader.proofs.Roots.{root-missed, root-lost, root-more, root-done}
use Rattle.reader.proofs.read_root.Goals as goal

pub opens-requires : goal.opens-requires
opens-requires c = ((run_in white _ _ _ c.requires.1.0 c.white_end-at.ensures).1, known_in _ _ c.requires.1.1.1.0)

pub returns-in_err-start-clause-exact : goal.returns-in_err-start-clause-exact
unfolding Answers
returns-in_err-start-clause-exact c =
    let a = c.args in
    let p = err_from_is_err_and c.from_residual.result c.from_residual.ensures.1 in
    rw (p.1, p.2) (λ root h. root-missed a.t.now root h a.s.now _ _ c.white_end-at.ensures _ (sym c.opens.ensures ∙ c.in_err-start.was))

pub read_element-requires : goal.read_element-requires
read_element-requires c =
    let p = c.requires in
    let w = run_in white _ _ _ p.1.0 c.white_end-at.ensures in
    let o = (sym c.opens.ensures ∙ c.in_ok-start.was) in
    record {
      short = p.0;
      known = p.1.1.1.0;
      holds = p.1.1.1.1;
      behind = (is_whole _ _ _ _ o).1;
      room = whole_in _ _ _ _ w.1 o;
      bounds = within_more p.1.1.0 (omega arith);
    }

pub returns-in_err-last-clause-exact : goal.returns-in_err-last-clause-exact
unfolding Answers
returns-in_err-last-clause-exact c =
    let a = c.args in
    let r = c.read_element in
    let p = err_from_is_err_and c.from_residual-in_err-last.result c.from_residual-in_err-last.ensures.1 in
    rw (p.1, p.2) (λ root h. root-lost a.t.now root h a.s.now _ _ c.white_end-at.ensures _ (sym c.opens.ensures ∙ c.in_ok-start.was) _ r.result r.new.heard r.new.slips r.new.rows
    (r.ensures.exact root h) _ c.in_err-last.was)

pub returns-then-end-s-clause-exact : goal.returns-then-end-s-clause-exact
unfolding Answers
returns-then-end-s-clause-exact c =
    let a = c.args in
    let r = c.read_element in
    λ root h. root-more a.t.now root h a.s.now _ _ c.white_end-at.ensures _ (sym c.opens.ensures ∙ c.in_ok-start.was) _ r.result r.new.heard r.new.slips r.new.rows
    (r.ensures.exact root h) _ _ _ c.in_ok-last.was c.white_end-end.ensures c.if-end-s.true

pub returns-clause-within : goal.returns-clause-within
returns-clause-within c =
    let f = fine-ended c.args.s.now c.white_end-at.result _ _ _ _ c.in_ok-last.was c.read_element.ensures.within in
    within_more f.1.1 f.1.0

pub returns-clause-exact : goal.returns-clause-exact
unfolding Answers
returns-clause-exact c =
    let a = c.args in
    let r = c.read_element in
    λ root h. root-done a.t.now root h a.s.now _ _ c.white_end-at.ensures _ (sym c.opens.ensures ∙ c.in_ok-start.was) _ r.result r.new.heard r.new.slips r.new.rows
    (r.ensures.exact root h) _ _ _ c.in_ok-last.was c.white_end-end.ensures c.if-end-s.false
