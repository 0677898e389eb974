use Prim.Native.Nat.{ℕ, ◌-◌}
use native.Mathlib.Omega.{arith}
use mathlib.Core.Path.{◌≡◌, refl, ap, sym, ◌∙◌}
use borrow.Author.Rules.{rules}
use Rattle.std.specs.Prelude.{Ok, Err}
use Rattle.std.proofs.lemmas.Result.{err_from_is_err_and}
use Rattle.tree.specs.Form.{Elem, white}
use Rattle.plan.specs.Held.{holds_elem}
use lib.Dec.{T}
use Rattle.scan.proofs.Scans.{run_in}
use Rattle.plan.proofs.Finds.{is_whole, whole_in}
use Rattle.plan.proofs.Held.{known_in, open_some}
use Rattle.heard.specs.Row.{state_of}
use Rattle.heard.specs.State.{step}
use Rattle.heard.proofs.Bounds.{within_more}
use Rattle.events.specs.Events.{held_at}
use Rattle.reader.specs.Told.{Gone, gone}
use Rattle.reader.proofs.Going.{kids_from, kept-known, going_start, going-skip, going-stuck, going-close, closed_in}
use Rattle.reader.proofs.Elements.{holder-small, begin_element, begin_fine}
use Rattle.reader.proofs.Turns.{Stood, turn-read, text_turn_lost, text-stood, element_turn_lost, element-stood}
use Rattle.reader.proofs.walk.+walk.Goals as goal
use Rattle.reader.proofs.walk.+walk.Goals.{read_children-Joined-kind_at, read_children-After-read_close, read_children-in-Text+in_ok-p-in-Text, read_children-in-Holds+in_ok-p-in-Holds}

-- ─── the children ───

pub read_children-number-k-requires : goal.read_children-number-k-requires
read_children-number-k-requires t c = (known_in _ _ c.requires.known).row

pub read_children-loop-k-init : goal.read_children-loop-k-init
read_children-loop-k-init t c =
    let p = c.requires in
    let a = c.args in
    record {
      behind = omega arith;
      inside = p.room;
      known = p.known;
      bounds = p.bounds;
      slips-long = refl;
      rows_long = refl;
      going = λ d h. going_start a.t.now a.s.now a.e d _ a.from _ h c.number-k.ensures.0;
    }

pub read_children-opens-requires : goal.read_children-opens-requires
read_children-opens-requires t c =
    (c.loop-k.invariant.inside, known_in _ _ (kept-known _ _ _ _ _ _ _ _ _ _ _ _ _ _ _ c.loop-k.invariant c.loop-k-test.true))

pub read_children-number-other-requires : goal.read_children-number-other-requires
read_children-number-other-requires t c =
    (known_in _ _ (kept-known _ _ _ _ _ _ _ _ _ _ _ _ _ _ _ c.loop-k.invariant c.loop-k-test.true)).row

pub read_children-returns-then-other-k-clause-exact : goal.read_children-returns-then-other-k-clause-exact
read_children-returns-then-other-k-clause-exact t c =
    let a = c.args in
    λ d h. sym (going-stuck a.t.now a.s.now _ d _ _ _ _ c.loop-k-test.true _ (sym c.opens.ensures ∙ c.in-Err.is) _ c.number-other.ensures.0 c.if-other-k.true _
    c.max-far.ensures (c.loop-k.invariant.going d h))

pub read_children-loop-k-preserved-in-Err : goal.read_children-loop-k-preserved-in-Err
read_children-loop-k-preserved-in-Err t c =
    let a = c.args in
    let k = c.loop-k.invariant in
    record {
      behind = k.behind;
      inside = k.inside;
      known = k.known;
      bounds = k.bounds;
      slips-long = k.slips-long;
      rows_long = k.rows_long;
      going = λ d h. going-skip a.t.now a.s.now _ d _ _ _ _ c.loop-k-test.true _ (sym c.opens.ensures ∙ c.in-Err.is) _ c.number-other.ensures.0 c.if-other-k.false _
          c.max-far.ensures (k.going d h);
    }

pub read_children-kind_at-requires : goal.read_children-kind_at-requires
read_children-kind_at-requires t c = (known_in _ _ (kept-known _ _ _ _ _ _ _ _ _ _ _ _ _ _ _ c.loop-k.invariant c.loop-k-test.true)).row

pub read_children-read_text-requires : goal.read_children-read_text-requires
read_children-read_text-requires t c =
    let k = c.loop-k.invariant in
    record {
      known = kept-known _ _ _ _ _ _ _ _ _ _ _ _ _ _ _ k c.loop-k-test.true;
      kind = sym c.kind_at.ensures ∙ c.in-Text.is;
      room = whole_in _ _ _ _ k.inside (sym c.opens.ensures ∙ c.in-Ok.is);
    }

pub read_children-read_element-requires : goal.read_children-read_element-requires
read_children-read_element-requires t c =
    let k = c.loop-k.invariant in
    let p = c.requires in
    let o = sym c.opens.ensures ∙ c.in-Ok.is in (
      omega arith,
      record {
        short = p.short;
        known = kept-known _ _ _ _ _ _ _ _ _ _ _ _ _ _ _ k c.loop-k-test.true;
        holds = sym c.kind_at.ensures ∙ c.in-Holds.is;
        behind = (is_whole _ _ _ _ o).1;
        room = whole_in _ _ _ _ k.inside o;
        bounds = k.bounds;
      },
    )

pub read_children-returns-in_err-p-in-Text-clause-exact : goal.read_children-returns-in_err-p-in-Text-clause-exact
read_children-returns-in_err-p-in-Text-clause-exact t c =
    let stands = sym c.opens.ensures ∙ c.in-Ok.is in
    let kind = sym c.kind_at.ensures ∙ c.in-Text.is in
    let p = err_from_is_err_and c.from_residual.result c.from_residual.ensures.1 in
    rw (p.1, p.2) (text_turn_lost _ _ _ _ _ _ _ _ _ _ _ _ _ _ _ c.loop-k.invariant c.loop-k-test.true _ stands _ kind _ _ c.read_text.ensures _ c.in_err-p-in-Text.was)

pub read_children-returns-in_err-p-in-Holds-clause-exact : goal.read_children-returns-in_err-p-in-Holds-clause-exact
read_children-returns-in_err-p-in-Holds-clause-exact t c =
    let stands = sym c.opens.ensures ∙ c.in-Ok.is in
    let p = err_from_is_err_and c.from_residual-in_err-p-in-Holds.result c.from_residual-in_err-p-in-Holds.ensures.1 in
    rw (p.1, p.2) (element_turn_lost _ _ _ _ _ _ _ _ _ _ _ _ _ _ _ c.loop-k.invariant c.loop-k-test.true _ stands _ _ _ _ c.read_element.ensures.exact _ c.in_err-p-in-Holds.was)

-- a child was read
stood : (t : ℕ) (c : read_children-Joined-kind_at t)
    → Stood c.args.t.now c.args.s.now c.loop-k.k c.loop-k.at c.loop-k.heard c.loop-k.slips c.loop-k.rows c.loop-k.running c.match-kind_at.p c.match-kind_at.heard c.match-kind_at.slips c.match-kind_at.rows c.match-kind_at.running
stood t c =
    let stands = sym c.opens.ensures ∙ c.in-Ok.is in
    elim c.match-kind_at.branch [
      | read_children-in-Text+in_ok-p-in-Text w ↦
          rw (w.heard-is, w.slips-is, w.rows-is, w.running-is, w.p-is)
          (text-stood _ _ _ _ _ _ _ _ _ _ _ _ _ _ _ c.loop-k.invariant c.loop-k-test.true _ stands _ (sym c.kind_at.ensures ∙ w.in-Text.is) _ _ w.read_text.ensures _ w.in_ok-p-in-Text.was)
      | read_children-in-Holds+in_ok-p-in-Holds w ↦
          rw (w.heard-is, w.slips-is, w.rows-is, w.running-is, w.p-is)
          (element-stood _ _ _ _ _ _ _ _ _ _ _ _ _ _ _ c.loop-k.invariant c.loop-k-test.true _ stands _ _ _ _ w.read_element.ensures.exact _ _ w.in_ok-p-in-Holds.was w.read_element.ensures.within)
    ]

pub read_children-white_end-at-requires : goal.read_children-white_end-at-requires
read_children-white_end-at-requires t c = (stood t (goal.at.read_children-white_end-at-requires t c).Joined-kind_at).fine.1.0

pub read_children-number-k-requires-in-Ok : goal.read_children-number-k-requires-in-Ok
read_children-number-k-requires-in-Ok t c = (known_in _ _ (kept-known _ _ _ _ _ _ _ _ _ _ _ _ _ _ _ c.loop-k.invariant c.loop-k-test.true)).row

pub read_children-loop-k-smaller : goal.read_children-loop-k-smaller
read_children-loop-k-smaller t c =
    let f = (stood t (goal.at.read_children-loop-k-smaller t c).Joined-kind_at).fine in
    let w = run_in white _ _ _ f.1.0 c.white_end-at.ensures in
    omega arith

pub read_children-loop-k-preserved : goal.read_children-loop-k-preserved
read_children-loop-k-preserved t c =
    turn-read _ _ _ _ _ _ _ _ _ _ _ _ _ _ _ c.loop-k.invariant c.loop-k-test.true _ (sym c.opens.ensures ∙ c.in-Ok.is) _ _ _ _ _
    (stood t (goal.at.read_children-loop-k-preserved t c).Joined-kind_at) _ _ c.number-k-in-Ok.ensures.0 c.white_end-at.ensures (search rules) (search rules)

-- what the closing tag comes to
closed : (t : ℕ) (c : read_children-After-read_close t) (d : Elem) → T (holds_elem c.args.t.now c.args.e d) → (x : Gone) → c.read_close.result ≡ x
    → gone c.args.s.now x (state_of c.loop-k.heard c.loop-k.running c.loop-k.slips c.loop-k.rows)
    ≡ kids_from c.args.t.now c.args.s.now (state_of c.args.heard.now c.args.tally c.args.slips.now c.args.rows.now) d c.args.from
closed t c d h x e =
    let l = c.loop-k in
    ap (λ (x : Gone). gone c.args.s.now x (state_of l.heard l.running l.slips l.rows)) (sym e ∙ c.read_close.ensures)
    ∙ going-close _ _ _ _ d _ _ _ _ h c.loop-k-test.false (l.invariant.going d h)

pub read_children-returns-in_err-p-clause-exact : goal.read_children-returns-in_err-p-clause-exact
read_children-returns-in_err-p-clause-exact t c =
    let p = err_from_is_err_and c.from_residual-in_err-p.result c.from_residual-in_err-p.ensures.1 in
    rw (p.1, p.2) (λ d h. closed t (goal.at.read_children-returns-in_err-p-clause-exact t c).After-read_close d h (Err _) c.in_err-p.was)

pub read_children-returns-clause-within : goal.read_children-returns-clause-within
read_children-returns-clause-within t c =
    let a = c.args in
    let l = c.loop-k in
    let k = l.invariant in
    let f = closed_in a.t.now a.s.now a.e l.far l.at _ _ k.known k.inside c.read_close.ensures c.in_ok-p.was in
    (omega (arith, k.behind, f.0), (f.1, within_more k.bounds (omega (arith, f.0))))

pub read_children-returns-clause-exact : goal.read_children-returns-clause-exact
read_children-returns-clause-exact t c = λ d h. closed t (goal.at.read_children-returns-clause-exact t c).After-read_close d h (Ok _) c.in_ok-p.was

-- ─── an element ───

pub read_element-number-part-requires : goal.read_element-number-part-requires
read_element-number-part-requires t c = (known_in _ _ c.requires.known).row

pub read_element-begin-next-requires : goal.read_element-begin-next-requires
read_element-begin-next-requires t c =
    let p = c.requires in
    let u = holder-small c.args.t.now c.args.e p.known p.holds in
    let l = open_some _ _ (known_in _ _ p.known) in
    (omega (arith, u, c.number-part.ensures.0), within_more p.bounds (omega (arith, p.behind, p.room, p.short)))

pub read_element-read_children-requires : goal.read_element-read_children-requires
read_element-read_children-requires t c =
    let p = c.requires in
    let a = c.args in
    let w = run_in _ _ _ _ p.room c.white_end-end.ensures in
    let l = open_some _ _ (known_in _ _ p.known) in (
      omega (arith, p.behind),
      record {
        short = p.short;
        known = p.known;
        room = w.1;
        bounds = within_more (begin_fine a.t.now a.e p.known p.holds a.s.now a.at a.start _ _ _ _ _ _ _ _ _
            (c.begin-next.ensures ∙ ap (λ (k : ℕ). step (state_of a.heard.now a.tally a.slips.now a.rows.now) (held_at k a.at a.start (c.white_end-end.result - a.start))) c.number-part.ensures.0)
            (omega (arith, p.behind)) p.bounds) w.0;
      },
    )

pub read_element-returns-clause-exact : goal.read_element-returns-clause-exact
read_element-returns-clause-exact t c =
    let p = c.requires in
    let a = c.args in
    begin_element a.t.now a.e p.known p.holds a.s.now a.at a.start _ _ _ _ _ _ _ _ _
    (c.begin-next.ensures ∙ ap (λ (k : ℕ). step (state_of a.heard.now a.tally a.slips.now a.rows.now) (held_at k a.at a.start (c.white_end-end.result - a.start))) c.number-part.ensures.0)
    p.behind c.white_end-end.ensures _ c.read_children.ensures.exact
