-- AN ELEMENT, by its kind, in plain variables: a text that is heard, and an element that begins.
--   plain-part            a text begins neither a batch nor a transaction
--   text-stuck, text-ended, text-fine   what a text comes to, and that the numbers stay small
--   begin_element, begin_fine  the same of an element that holds elements
use Prim.Native.Nat.{ℕ, ◌+◌, ◌-◌, ◌<◌, ◌≤◌}
use native.Mathlib.Omega.{arith}
use mathlib.Core.List.{List, []}
use mathlib.Core.Path.{◌≡◌, refl, ap, sym, subst, ◌∙◌}
use lib.Dec.{T}
use lib.ListN.{length, drop}
use Rattle.std.specs.Prelude.{Err, Ok}
use Rattle.laws.specs.Bytes.{Bytes, span}
use Rattle.text.specs.declared.Rule.{Rule}
use Rattle.tree.specs.declared.Kind.TheVariants.{Holds, Text}
use Rattle.tree.specs.Parts.{parts_end}
use Rattle.tree.specs.Form.{Elem, Items, none, event, items, white, in_text}
use Rattle.message.specs.declared.Told.{Told}
use Rattle.message.specs.Message as message
use Rattle.profile.specs.declared.Tally.{Tally}
use Rattle.heard.specs.declared.Heard.{Heard}
use Rattle.heard.specs.State.{step}
use Rattle.heard.specs.Row.{Row, row_of, state_of, state_with}
use Rattle.heard.specs.Bounds.{Within, Fit}
use Rattle.heard.proofs.Bounds.{within_more, within_step}
use Rattle.events.specs.Events.{held_at, Plain}
use Rattle.events.proofs.Events.{text-step}
use Rattle.plan.specs.Plan.{cell, kind_of, open_tag, found}
use Rattle.plan.specs.Held.{holds_elem, holds_items, Known}
use Rattle.plan.proofs.Finds.{is_whole, whole_in}
use Rattle.plan.proofs.Held.{Held, held, held_none, known_in, open_some}
use Rattle.scan.proofs.Scans.{run_in}
use Rattle.reader.specs.Told.{step_of, gone, TextRead, Gone}
use Rattle.reader.specs.Walk.{ended, halts}
use Rattle.reader.proofs.Going.{Reads, kids_from, one_at, element-read, leaf_kids, known-fit, closed_in}
use Rattle.reader.proofs.Sane.{told_sane}

no_text : (r : Rule) → Text r ≡ Holds → ⊥
no_text r e = cc

pub within-tables : {p : ℕ} (hd : Heard) (y : Tally) (s r s' r' : List ℕ) → Within p (state_of hd y s r) → Within p (state_of hd y s' r')
within-tables hd y s r s' r' w = record { batches = w.batches; transactions = w.transactions; cents = w.cents; amount = w.amount; scheme = w.scheme; sequence = w.sequence }

module _ (t : Bytes) (e : ℕ) (k : Known t e) (rule : Rule) (q : kind_of (cell t e 4) ≡ Text rule) where
  fit : (at start n : ℕ) → Fit (event (cell t e 5) (Text rule) at start n)
  fit at start n = known-fit t e k (cell t e 5) (Text rule) at start n refl (sym q)

  pub plain-part : Plain (cell t e 5)
  plain-part = record {
    small = (fit 0 0 0).small;
    batch = λ m. no_text rule ((fit 0 0 0).batch m);
    transaction = λ m. no_text rule ((fit 0 0 0).transaction m);
    address = λ m. no_text rule ((fit 0 0 0).address m);
  }

  -- its opening tag stands at `at`, and its text was read
  module _ (s : Bytes) (at start : ℕ) (o : found s at (open_tag t e) ≡ Ok start) (x : Gone) (hd hd' : Heard) (r : TextRead t s e rule start x hd hd') where
    behind : start ≡ at + length (open_tag t e)
    behind = (is_whole s at (open_tag t e) start o).1

    abbrev told_text : Told
    told_text = message.told s (event (cell t e 5) (Text rule) at start (r.end - start))

    text-heard : (y : Tally) (sl rw : List ℕ) → step (state_of hd y sl rw) told_text ≡ state_of hd' y sl rw
    text-heard y sl rw = sym (ap (λ (w : Row). state_with w y sl rw) r.text.said ∙ text-step (row_of hd) told_text y sl rw plain-part)

    text-element : (y : Tally) (sl rw : List ℕ) (c : Elem) → T (holds_elem t e c) → gone s x (state_of hd' y sl rw) ≡ one_at t s (state_of hd y sl rw) c at
    unfolding step_of
    text-element y sl rw c h =
        element-read t s e at start r.end (cell t e 5) (Text rule) (state_of hd y sl rw) (state_of hd' y sl rw) (gone s x (state_of hd' y sl rw)) refl (sym q) behind r.text.run (text-heard y sl rw) kids c h
      where
        kids : (d : Elem) → T (holds_elem t e d) → gone s x (state_of hd' y sl rw) ≡ kids_from t s (state_of hd' y sl rw) d r.end
        kids d u =
            let g : Held t e d = held t e d u in
            let n : items d ≡ none = g.empty rule (sym g.is-kind ∙ q) in
            ap (λ (z : Gone). gone s z (state_of hd' y sl rw)) r.close
            ∙ leaf_kids t s e r.end (state_of hd' y sl rw) (held_none t (cell t e 6) (subst (λ (is : Items). T (holds_items t (cell t e 6) is)) n g.below)) d u

    -- its closing tag does not stand there, or it does
    pub text-stuck : (y : Tally) (sl rw : List ℕ) (p : ℕ) → x ≡ Err p → (c : Elem) → T (holds_elem t e c) → halts p ≡ one_at t s (state_of hd y sl rw) c at
    text-stuck y sl rw p z c h = ap (λ (g : Gone). gone s g (state_of hd' y sl rw)) (sym z) ∙ text-element y sl rw c h

    pub text-ended : (y : Tally) (sl rw : List ℕ) (p : ℕ) → x ≡ Ok p → (c : Elem) → T (holds_elem t e c)
        → ended p (state_of hd' y sl rw) ≡ one_at t s (state_of hd y sl rw) c at
    text-ended y sl rw p z c h = ap (λ (g : Gone). gone s g (state_of hd' y sl rw)) (sym z) ∙ text-element y sl rw c h

    pub text-fine : (y : Tally) (p : ℕ) → at ≤ length s → Within at (state_of hd y [] []) → x ≡ Ok p → (at < p) × ((p ≤ length s) × Within p (state_of hd' y [] []))
    text-fine y p m w z =
        let l : at < start = omega (arith, behind, open_some t e (known_in t e k)) in
        let u = run_in in_text s start r.end (whole_in s at (open_tag t e) start m o) r.text.run in
        let c = closed_in t s e r.end r.end p x k u.1 r.close z in
        let v = event (cell t e 5) (Text rule) at start (r.end - start) in
        let b : Within start (state_of hd' y [] []) = subst (Within start) (text-heard y [] []) (within_step at start (state_of hd y [] []) told_text w l (told_sane s v (fit at start (r.end - start)))) in
        (omega (arith, u.0, c.0), (c.1, within_more b (omega (arith, u.0, c.0))))

-- an element that holds elements
module _ (t : Bytes) (e : ℕ) (k : Known t e) (q : kind_of (cell t e 4) ≡ Holds) where
  holder-fit : (at start n : ℕ) → Fit (event (cell t e 5) Holds at start n)
  holder-fit at start n = known-fit t e k (cell t e 5) Holds at start n refl (sym q)

  pub holder-small : cell t e 5 < parts_end
  holder-small = (holder-fit 0 0 0).small

  module _ (s : Bytes) (at start end : ℕ) (hd hd' : Heard) (y z : Tally) (sl rw sl' rw' : List ℕ)
      (o : state_of hd' z sl' rw' ≡ step (state_of hd y sl rw) (held_at (cell t e 5) at start (end - start))) where
    pub begin_element : start ≡ at + length (open_tag t e) → end ≡ start + span white (drop start s) → (x : Reads t s)
        → ((c : Elem) → T (holds_elem t e c) → x ≡ kids_from t s (state_of hd' z sl' rw') c end) → (c : Elem) → T (holds_elem t e c) → x ≡ one_at t s (state_of hd y sl rw) c at
    unfolding step_of
    begin_element b r x ih c h =
        element-read t s e at start end (cell t e 5) Holds (state_of hd y sl rw) (state_of hd' z sl' rw') x refl (sym q) b r (sym o) ih c h

    pub begin_fine : at < start → Within at (state_of hd y [] []) → Within start (state_of hd' z [] [])
    begin_fine l w =
        within-tables hd' z sl' rw' [] []
        (subst (Within start) (sym o)
        (within_step at start (state_of hd y sl rw) (message.told s (event (cell t e 5) Holds at start (end - start))) (within-tables hd y [] [] sl rw w) l
        (told_sane s (event (cell t e 5) Holds at start (end - start)) (holder-fit at start (end - start)))))
