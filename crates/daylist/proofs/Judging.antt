-- THE FIELDS OF A LINE, one by one: i fields are judged, and `at` is where the next text's length byte stands.
--   then, first_bad_append       one list of judgements after the other
--   creditor_line                a creditor line has texts alone
--   collection_values, collection_line   a collection has three fields and then its texts, which are judged after them
--   judged_from                  what is judged of the texts from `at` on, as the fields from i on; texts-whole: all of them
--   texts-step, texts-out, texts-none   one text; the bytes are at their end; the fields are
use Prim.Native.Nat.{ℕ, zero, suc, ◌+◌, ◌-◌, ◌<◌, ◌≤◌, min}
use native.Mathlib.Numerals.{add-one}
use native.Mathlib.Omega.{arith}
use mathlib.Core.List.{List, [], ◌∷◌, ◌++◌}
use mathlib.Core.Path.{◌≡◌, refl, ap, sym, ◌∙◌}
use lib.ListN.{length, take, drop, get_or, length-drop, drop_of_length-le}
use lib.Seq.{drop-drop, drop-cons}
use Rattle.std.specs.Prelude.{Err, Ok}
use Rattle.laws.specs.Bytes.{Bytes}
use Rattle.text.specs.Rules.{Judged}
use Rattle.laws.proofs.Loops.{drop-step}
use Rattle.frames.specs.declared.Field.{Field}
use Rattle.frames.specs.declared.Frame.{Frame}
use Rattle.frames.specs.Fields.{creditor_fields, collection_fields, fields_of, judged_field}
use Rattle.frames.specs.Frames.{creditor_frame, collection_frame, lead_of, texts_of, texts}
use Rattle.daylist.specs.Values.{JudgedLine, collection_lead, judged_lead, judged_texts, judged_fields, else, first_bad, judged_line}
use Rattle.frames.proofs.Cuts.{by_further}
use Rattle.daylist.proofs.Leads.{take-there, drop-there}

-- a line whose fields so far are good is judged by those after them
abbrev pub then : JudgedLine → JudgedLine → JudgedLine
then (Ok u) l = l
then (Err b) l = Err b

pub first_bad_append : (k : ℕ) (js ks : List Judged) → first_bad k (js ++ ks) ≡ then (first_bad k js) (first_bad (k + length js) ks)
first_bad_append k [] ks = let e : k + 0 ≡ k = omega arith in rw e
first_bad_append k (Ok n ∷ js) ks = first_bad_append (k + 1) js ks ∙ (let e : k + 1 + length js ≡ k + suc (length js) = omega arith in rw e)
first_bad_append k (Err f ∷ js) ks = refl

-- ─── before the texts ───

module _ (n : ℕ) (s : Bytes) where
  -- a creditor line has texts alone
  pub creditor_line : n ≡ 1 → judged_line n s ≡ first_bad 0 (judged_texts creditor_fields (texts 7 (drop 1 s)))
  creditor_line e = ap (λ (i : ℕ). judged_line i s) e

  -- a collection has three fields, and then the texts
  pub collection_values : (n ≡ 1 → ⊥) → judged_fields n s ≡ collection_lead (lead_of collection_frame s) ++ judged_texts collection_fields (texts_of collection_frame s)
  collection_values d = ap (λ (f : Frame). judged_lead n (lead_of f s) ++ judged_texts (fields_of n) (texts_of f s)) (by_further n creditor_frame collection_frame d)
      ∙ ap (λ (js : List Judged). js ++ judged_texts (fields_of n) (texts_of collection_frame s)) (by_further n [] (collection_lead (lead_of collection_frame s)) d)
      ∙ ap (λ (fs : List Field). collection_lead (lead_of collection_frame s) ++ judged_texts fs (texts_of collection_frame s)) (by_further n creditor_fields collection_fields d)

  -- whose texts are judged where the fields before them, judged l, are good
  pub collection_line : (l : JudgedLine) → l ≡ first_bad 0 (collection_lead (lead_of collection_frame s)) → (n ≡ 1 → ⊥)
      → judged_line n s ≡ then l (first_bad 3 (judged_texts collection_fields (texts 8 (drop 8 s))))
  collection_line l e d =
      ap (first_bad 0) (collection_values d)
      ∙ first_bad_append 0 (collection_lead (lead_of collection_frame s)) (judged_texts collection_fields (texts_of collection_frame s))
      ∙ ap (λ (k : JudgedLine). then k (first_bad 3 (judged_texts collection_fields (texts 8 (drop 8 s))))) (sym e)

-- ─── the texts ───

no_texts : (n : ℕ) (fs : List Field) → judged_texts fs (texts n []) ≡ []
no_texts zero [] = refl
no_texts zero (f ∷ fs) = refl
no_texts (suc n) [] = refl
no_texts (suc n) (f ∷ fs) = refl

-- what is judged of the texts from `at` on, of which there are as many as fields from i on; b fields stand before all texts
abbrev pub judged_from : ℕ → List Field → ℕ → Bytes → ℕ → JudgedLine
judged_from b fs i s at = first_bad (b + i) (judged_texts (drop i fs) (texts (length fs - i) (drop at s)))

module _ (b : ℕ) (fs : List Field) (i : ℕ) (s : Bytes) (at : ℕ) where
  -- all of them
  pub texts-whole : first_bad b (judged_texts fs (texts (length fs) (drop at s))) ≡ judged_from b fs 0 s at
  texts-whole =
      let e : length fs - 0 ≡ length fs = omega arith in
      let z : b + 0 ≡ b = omega arith in
      rw (e, z)

  pub texts-out : length s ≤ at → judged_from b fs i s at ≡ Ok tt
  texts-out h = rw (drop_of_length-le s h, no_texts (length fs - i) (drop i fs))

  pub texts-none : length fs ≤ i → judged_from b fs i s at ≡ Ok tt
  texts-none h = rw (drop_of_length-le fs h)

  pub texts-step : (d : Field) (m : ℕ) → i < length fs → at < length s → m ≡ min (get_or s at 0) (length s - (at + 1))
      → judged_from b fs i s at ≡ else (b + (i + 1)) (judged_field (get_or fs i d) (take m (drop (at + 1) s))) (judged_from b fs (i + 1) s (at + 1 + m))
  texts-step d m h l e =
      let n : length fs - i ≡ suc (length fs - suc i) = omega arith in
      let k : m ≡ min (get_or s at 0) (length (drop (at + 1) s)) = rw (length-drop (at + 1) s) e in
      let z : b + i + 1 ≡ b + suc i = omega arith in
      rw (add-one i, n, drop-step s at l, drop-cons fs i d, take-there (get_or s at 0) m (drop (at + 1) s) k, drop-there (get_or s at 0) m (drop (at + 1) s) k, drop-drop m (at + 1) s, z)
