-- A TURN OF THE LOOP OVER CHILDREN IN WHICH A CHILD STANDS, in plain variables: the same whether the child is a text or holds elements.
--   Stood, turn-read                     the child was read, up to p, and its numbers are small; what the loop keeps is then kept after it
--   text_turn_lost, text-stood           the child is a text: it was not read, or it was
--   element_turn_lost, element-stood     it holds elements
use Prim.Native.Nat.{ℕ, ◌+◌, ◌<◌, ◌≤◌}
use native.Mathlib.Omega.{arith}
use mathlib.Core.List.{List, []}
use mathlib.Core.Path.{◌≡◌, refl, sym, ap, ◌∙◌}
use lib.Dec.{T}
use lib.ListN.{length, drop}
use Rattle.std.specs.Prelude.{Err, Ok}
use Rattle.laws.specs.Bytes.{Bytes, span}
use Rattle.text.specs.declared.Rule.{Rule}
use Rattle.tree.specs.declared.Kind.TheVariants.{Text}
use Rattle.tree.specs.Form.{Elem, white}
use Rattle.profile.specs.declared.Tally.{Tally}
use Rattle.heard.specs.declared.Heard.{Heard}
use Rattle.heard.specs.Row.{state_of}
use Rattle.heard.specs.Bounds.{Within}
use Rattle.heard.proofs.Bounds.{within_more}
use Rattle.plan.specs.Plan.{rows_end, cell, kind_of, open_tag, found}
use Rattle.plan.specs.Held.{holds_elem, Known}
use Rattle.scan.proofs.Scans.{run_in}
use Rattle.reader.specs.Told.{reading_of, Fine, TextRead, Gone, Reading}
use Rattle.reader.specs.Walk.{ended, halts}
use Rattle.reader.proofs.Going.{kids_from, one_at, Kept, kept-known, fine-ended, going-lost, going-child}
use Rattle.reader.proofs.Elements.{text-stuck, text-ended, text-fine}

-- the child of the row k was read from `at` up to p, with what was lent and the tally before and after
pub record Stood (t s : Bytes) (k at : ℕ) (heard : Heard) (slips rows : List ℕ) (y : Tally) (p : ℕ) (heard' : Heard) (slips' rows' : List ℕ) (y' : Tally) : Type 0 where
  pub child : (c : Elem) → T (holds_elem t k c) → ended p (state_of heard' y' slips' rows') ≡ one_at t s (state_of heard y slips rows) c at
  pub fine : (at < p) × ((p ≤ length s) × Within p (state_of heard' y' [] []))

module _ (t s : Bytes) (e from : ℕ) (heard₀ : Heard) (slips₀ rows₀ : List ℕ) (y₀ : Tally) (heard : Heard) (slips rows : List ℕ) (k at far' : ℕ) (y : Tally)
    (h : Kept t s e from heard₀ slips₀ rows₀ y₀ heard slips rows k at far' y) (l : k < rows_end) (start : ℕ) (o : found s at (open_tag t k) ≡ Ok start) where
  turn-lost : (p : ℕ) → ((c : Elem) → T (holds_elem t k c) → halts p ≡ one_at t s (state_of heard y slips rows) c at)
      → (d : Elem) → T (holds_elem t e d) → halts p ≡ kids_from t s (state_of heard₀ y₀ slips₀ rows₀) d from
  turn-lost p ih d u = sym (going-lost t s _ d k at far' _ l start o (halts p) ih p refl (h.going d u))

  pub turn-read : (p : ℕ) (hd : Heard) (sl rw : List ℕ) (z : Tally) → Stood t s k at heard slips rows y p hd sl rw z → (at' n : ℕ) → n ≡ cell t k 7 → at' ≡ p + span white (drop p s)
      → length sl ≡ length slips₀ → length rw ≡ length rows₀ → Kept t s e from heard₀ slips₀ rows₀ y₀ hd sl rw n at' at' z
  turn-read p hd sl rw z d at' n q v b c =
      let f = d.fine in
      let w = run_in white s p at' f.1.0 v in
      record {
        behind = omega (arith, h.behind, f.0, w.0);
        inside = w.1;
        known = h.known;
        bounds = within_more f.1.1 w.0;
        slips-long = b;
        rows_long = c;
        going = λ r u. going-child t s _ r k at far' _ l start o (ended p (state_of hd z sl rw)) d.child p at' n _ q refl v (h.going r u);
      }

  -- the row that was tried holds an element
  tried-known : Known t k
  tried-known = kept-known t s e from heard₀ slips₀ rows₀ y₀ heard slips rows k at far' y h l

  -- ─── a text ───

  module _ (rule : Rule) (q : kind_of (cell t k 4) ≡ Text rule) (x : Gone) (hd' : Heard) (r : TextRead t s k rule start x heard hd') (p : ℕ) where
    pub text_turn_lost : x ≡ Err p → (d : Elem) → T (holds_elem t e d) → halts p ≡ kids_from t s (state_of heard₀ y₀ slips₀ rows₀) d from
    text_turn_lost z = turn-lost p (text-stuck t k tried-known rule q s at start o x heard hd' r y slips rows p z)

    pub text-stood : x ≡ Ok p → Stood t s k at heard slips rows y p hd' slips rows y
    text-stood z = record {
      child = text-ended t k tried-known rule q s at start o x heard hd' r y slips rows p z;
      fine = text-fine t k tried-known rule q s at start o x heard hd' r y p h.inside h.bounds z;
    }

  -- ─── an element that holds elements ───

  module _ (x : Reading) (hd : Heard) (sl rw : List ℕ) (ih : (c : Elem) → T (holds_elem t k c) → reading_of s x hd sl rw ≡ one_at t s (state_of heard y slips rows) c at) (p : ℕ) where
    pub element_turn_lost : x ≡ Err p → (d : Elem) → T (holds_elem t e d) → halts p ≡ kids_from t s (state_of heard₀ y₀ slips₀ rows₀) d from
    element_turn_lost z = turn-lost p (λ c u. ap (λ (v : Reading). reading_of s v hd sl rw) (sym z) ∙ ih c u)

    pub element-stood : (z : Tally) → x ≡ Ok (p, z) → Fine s at x hd → Stood t s k at heard slips rows y p hd sl rw z
    element-stood z w f = record { child = λ d g. ap (λ (j : Reading). reading_of s j hd sl rw) (sym w) ∙ ih d g; fine = fine-ended s at x p z hd w f }
