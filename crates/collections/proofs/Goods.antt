-- A LIST THAT IS JUDGED GOOD HAS NONE BUT GOOD VALUES.
--   good-creditor      its creditor's
--   good-collections   each collection's; good-terms: so their terms are good
--   good-number        it has as many collections as its judgement says
--   framed-line        a line that holds a frame has the bytes of one
use Prim.Native.Nat.{ℕ, zero, suc, ◌+◌, ◌-◌, ◌<◌, ◌≤◌}
use native.Mathlib.Nat.{not-suc-le-zero, le_of_suc-le-suc}
use native.Mathlib.Omega.{arith}
use mathlib.Core.Bool.{Bool, true, false, ◌&&◌}
use mathlib.Core.List.{List, [], ◌∷◌, ◌++◌, map}
use mathlib.Core.Path.{◌≡◌, refl, ap, sym, subst}
use lib.Dec.{T, leb, leb→le, eqb-suc-zero}
use lib.ListN.{length, drop, get_or}
use Rattle.std.specs.Prelude.{Ok}
use Rattle.laws.specs.Bytes.{Bytes, between}
use Rattle.laws.specs.Lists.{All}
use Rattle.laws.proofs.Tests.{and_l, and_r, T_true, true-T}
use Rattle.laws.proofs.Counts.{All-map}
use Rattle.profile.specs.Limits.{most_cents}
use Rattle.profile.specs.declared.Flaw.{Flaw}
use Rattle.profile.specs.declared.Flaw.TheVariants.{Number, Code}
use Rattle.profile.specs.declared.ListRefusal.TheVariants.{NotAFrame}
use Rattle.text.specs.declared.Rule.{Rule}
use Rattle.text.specs.declared.Rule.TheVariants.{Identifier, Remittance, Bic}
use Rattle.text.specs.Rules.{Judged, must, good, judged}
use Rattle.frames.specs.declared.Field.{Field}
use Rattle.frames.specs.declared.Frame.{Frame}
use Rattle.frames.specs.Lines.{Line, lines}
use Rattle.frames.specs.Hex.{hex, unhex}
use Rattle.frames.specs.declared.Field.TheVariants.{Needed, Optional}
use Rattle.frames.specs.Fields.{creditor_fields, collection_fields, judged_field}
use Rattle.frames.specs.Frames.{creditor_frame, collection_frame, frame_of, framed, holds, texts, is_frame, lead_of, texts_of}
use Rattle.frames.proofs.Cuts.{by_further}
use Rattle.frames.proofs.Parts.{come_start}
use Rattle.daylist.specs.Lead.{high_first, lead_scheme, lead_sequence, lead_cents}
use Rattle.daylist.specs.Values.{collection_lead, judged_texts, judged_fields, judged_line}
use Rattle.daylist.specs.Stages.{frames_from, values_from, judged_list}
use Rattle.daylist.proofs.Breaks.{Sound, fields_good}
use Rattle.daylist.proofs.Judging.{collection_values}
use Rattle.daylist.proofs.Goods.{GoodList, good-list, must-good, of-good}
use Rattle.collections.specs.Listed.{collection_of, creditor_of, first_line, creditor, listed}
use Rattle.collections.specs.Good.{empty_or, GoodTerms, GoodCollection, GoodCreditor}
use Rattle.collections.proofs.Lines.{listed-number}

-- ─── judgements ───

-- where a judgement is good, its first test held
held : (b : Bool) (f : Flaw) (j : Judged) → T (good (must b f j)) → T b
held true f j t = tt
held false f j t = t

scheme-good : (b : ℕ) → T (good (lead_scheme b)) → b ≤ 1
scheme-good b t = leb→le b 1 (held (leb b 1) Code (Ok b) t)

sequence-good : (b : ℕ) → T (good (lead_sequence b)) → b ≤ 3
sequence-good b t = leb→le b 3 (held (leb b 3) Code (Ok b) t)

cents-good : (s : Bytes) → T (good (lead_cents s)) → (1 ≤ high_first s) × (high_first s ≤ most_cents)
cents-good s t =
    let n = high_first s in
    let b = held (between 1 most_cents n) Number (Ok n) t in
    (leb→le 1 n (and_l (leb 1 n) (leb n most_cents) b), leb→le n most_cents (and_r (leb 1 n) (leb n most_cents) b))

-- an optional field is empty or good by its rule
optional-good : (r : Rule) (s : Bytes) → T (good (judged_field (Optional r) s)) → T (empty_or (judged r) s)
optional-good r [] t = tt
optional-good r (c ∷ s) t = rw (eqb-suc-zero (length s), judged_field) at t

-- each text is good as its field
texts-good : (d : Field) (fs : List Field) (ts : List Bytes) → length fs ≡ length ts → All Sound (judged_texts fs ts) → (i : ℕ) → i < length fs → Sound (judged_field (get_or fs i d) (get_or ts i []))
texts-good d [] ts n t i h = absurd (not-suc-le-zero h)
texts-good d (f ∷ fs) [] n t i h = absurd (omega arith)
texts-good d (f ∷ fs) (u ∷ ts) n t zero h = t.0
texts-good d (f ∷ fs) (u ∷ ts) n t (suc i) h = texts-good d fs ts (omega arith) t.1 i (le_of_suc-le-suc h)

-- ─── frames ───

-- where n texts are held, there are n
held_number : (n : ℕ) (s : Bytes) → T (holds n s) → length (texts n s) ≡ n
held_number zero s t = refl
held_number (suc n) [] t = absurd t
held_number (suc n) (b ∷ s) t = ap suc (held_number n (drop b s) (and_r (leb b (length s)) (holds n (drop b s)) t))

framed-number : (f : Frame) (s : Bytes) → framed f s ≡ true → f.texts ≡ length (texts_of f s)
framed-number f s e =
    let n : f.texts - 0 ≡ f.texts = omega arith in
    let h = (come_start f s e).held in
    sym (held_number f.texts (drop (1 + f.lead) s) (true-T (holds f.texts (drop (1 + f.lead) s)) (rw n at h)))

-- a line that holds a frame
pub framed-line : (f : Frame) (l : Line) → is_frame f l ≡ true → framed f (unhex l.bytes) ≡ true
framed-line f l e =
    let t = true-T (is_frame f l) e in
    T_true _ (and_r (hex l.bytes) (framed f (unhex l.bytes)) (and_r l.ended (hex l.bytes && framed f (unhex l.bytes)) t))

-- ─── lines ───

-- the creditor line
creditor-line : (s : Bytes) → framed creditor_frame s ≡ true → judged_line 1 s ≡ Ok tt → GoodCreditor (creditor_of s)
creditor-line s f g = record {
  message_id = each 0 (omega arith);
  creation_time = each 1 (omega arith);
  initiating_name = each 2 (omega arith);
  name = each 3 (omega arith);
  account = each 4 (omega arith);
  bank = optional-good Bic (get_or (texts_of creditor_frame s) 5 []) (each 5 (omega arith));
  identifier = each 6 (omega arith);
}
  where
    each : (i : ℕ) → i < 7 → Sound (judged_field (get_or creditor_fields i (Needed Identifier)) (get_or (texts_of creditor_frame s) i []))
    each = texts-good (Needed Identifier) creditor_fields (texts_of creditor_frame s) (framed-number creditor_frame s f) (fields_good 0 (judged_fields 1 s) g)

-- a collection line
collection_line : (n : ℕ) (s : Bytes) → (n ≡ 1 → ⊥) → framed collection_frame s ≡ true → judged_line n s ≡ Ok tt → GoodCollection (collection_of s)
collection_line n s d f g = record {
  terms = record { scheme = scheme-good (get_or lead 0 0) all.0; sequence = sequence-good (get_or lead 1 0) all.1.0; date = each 0 (omega arith) };
  least = (cents-good (drop 2 lead) all.1.1.0).0;
  most = (cents-good (drop 2 lead) all.1.1.0).1;
  end_to_end = each 1 (omega arith);
  mandate = each 2 (omega arith);
  signature_date = each 3 (omega arith);
  bank = optional-good Bic (get_or (texts_of collection_frame s) 4 []) (each 4 (omega arith));
  debtor_name = each 5 (omega arith);
  debtor_account = each 6 (omega arith);
  remittance = optional-good Remittance (get_or (texts_of collection_frame s) 7 []) (each 7 (omega arith));
}
  where
    lead : Bytes
    lead = lead_of collection_frame s

    all : All Sound (collection_lead lead ++ judged_texts collection_fields (texts_of collection_frame s))
    all = subst (λ (js : List Judged). All Sound js) (collection_values n s d) (fields_good 0 (judged_fields n s) g)

    each : (i : ℕ) → i < 8 → Sound (judged_field (get_or collection_fields i (Needed Identifier)) (get_or (texts_of collection_frame s) i []))
    each = texts-good (Needed Identifier) collection_fields (texts_of collection_frame s) (framed-number collection_frame s f) all.1.1.1

-- ─── lists ───

-- the lines after the first k, of which the creditor's is one
collections-from : (k n m : ℕ) (ls : List Line) → 1 ≤ k → frames_from k ls ≡ Ok n → values_from k ls ≡ Ok m → All GoodCollection (map (λ l. collection_of (unhex l.bytes)) ls)
collections-from k n m [] h f v = tt
collections-from k n m (l ∷ ls) h f v =
    let p = must-good (is_frame (frame_of (k + 1)) l) (NotAFrame (k + 1)) (frames_from (k + 1) ls) n f in
    let q = of-good (judged_line (k + 1) (unhex l.bytes)) (k + 1) m (values_from (k + 1) ls) v in
    let d : k + 1 ≡ 1 → ⊥ = λ e. omega arith in
    let w = framed-line (frame_of (k + 1)) l p.0 in
    (collection_line (k + 1) (unhex l.bytes) d (rw (by_further (k + 1) creditor_frame collection_frame d) at w) q.0, collections-from (k + 1) n m ls (omega arith) p.1 q.1)

module _ (s : Bytes) (c n : ℕ) (e : judged_list s c ≡ Ok n) where
  list : GoodList s c n
  list = good-list s c n e

  pub good-number : length (listed s) ≡ n
  good-number = omega (arith, listed-number s, list)

  pub good-creditor : GoodCreditor (creditor s)
  good-creditor = go (lines s) list.count list.frames list.values
    where
      go : (ls : List Line) → length ls ≡ n + 1 → frames_from 0 ls ≡ Ok (n + 1) → values_from 0 ls ≡ Ok list.told → GoodCreditor (creditor_of (unhex (first_line ls)))
      go [] h f v = absurd (omega arith)
      go (l ∷ ls) h f v =
          creditor-line (unhex l.bytes) (framed-line creditor_frame l (must-good (is_frame creditor_frame l) (NotAFrame 1) (frames_from 1 ls) (n + 1) f).0)
          (of-good (judged_line 1 (unhex l.bytes)) 1 list.told (values_from 1 ls) v).0

  pub good-collections : All GoodCollection (listed s)
  good-collections = go (lines s) list.frames list.values
    where
      go : (ls : List Line) → frames_from 0 ls ≡ Ok (n + 1) → values_from 0 ls ≡ Ok list.told → All GoodCollection (map (λ l. collection_of (unhex l.bytes)) (drop 1 ls))
      go [] f v = tt
      go (l ∷ ls) f v =
          collections-from 1 (n + 1) list.told ls (omega arith) (must-good (is_frame creditor_frame l) (NotAFrame 1) (frames_from 1 ls) (n + 1) f).1
          (of-good (judged_line 1 (unhex l.bytes)) 1 list.told (values_from 1 ls) v).1

  pub good-terms : All (λ x. GoodTerms x.terms) (listed s)
  good-terms = All-map GoodCollection (λ x. GoodTerms x.terms) (listed s) (λ x g. g.terms) good-collections
