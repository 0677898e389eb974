use Rattle.daylist.proofs.Walking.{line-there}
use Rattle.daylist.specs.Walk.{after, walked, Judges}
use Rattle.frames.specs.Lines.{Line, lines}
use Rattle.profile.specs.declared.ListRefusal.{ListRefusal}
use Rattle.std.specs.Prelude.{Result}
use Rattle.std.proofs.lemmas.Result.{err_from_is_err_and}
use lib.ListN.{drop}
use mathlib.Core.Path.{◌≡◌, sym, ap, ◌∙◌}
use native.Mathlib.Omega.{arith}
use Prim.Native.Nat.{ℕ, ◌+◌}
use Rattle.daylist.proofs.stages.each_line.Goals as goal
use Rattle.daylist.proofs.stages.each_line.Goals.{After-judge}
use Rattle.daylist.proofs.stages.each_line.Given.{Over}

-- the line at this place is judged r, and the rest follow
here : (g : Over) (c : After-judge g) (f : ℕ → Line → Result (Unit {0}) ListRefusal) → Judges (λ s e n r. g.F.Fn.post c.args.judge (s, (e, (n, tt))) r) f → (r : Result (Unit {0}) ListRefusal) → c.judge.result ≡ r
    → walked f 0 (lines c.args.list.now) ≡ after r (walked f (c.loop-at.done + 1) (lines (drop (c.line_end-end.result + 1) c.args.list.now)))
here g c f h r e =
    let l = c.loop-at in
    let s = c.args.list.now in
    let end = c.line_end-end.result in
    l.invariant.1 f h
    ∙ ap (walked f l.done) (line-there s l.at end c.line_end-end.ensures.0 c.loop-at-test.true)
    ∙ ap (λ (x : Result (Unit {0}) ListRefusal). after x (walked f (l.done + 1) (lines (drop (end + 1) s)))) (sym (h _ _ _ _ c.judge.ensures) ∙ e)

pub returns-in_err-judge : goal.returns-in_err-judge
returns-in_err-judge g c = λ f h.
    let p = err_from_is_err_and c.from_residual.result c.from_residual.ensures.1 in
    rw (p.1, p.2) (sym (here g (goal.at.returns-in_err-judge g c).After-judge f h _ c.in_err-judge.was))

pub loop-at-preserved : goal.loop-at-preserved
loop-at-preserved g c = (omega (arith, c.line_end-end.ensures), λ f h. here g (goal.at.loop-at-preserved g c).After-judge f h _ c.in_ok-judge.was)
