-- A LIST IS REFUSED FOR A VALUE, BY ITS FLAW, AT A LINE AND A FIELD EXACTLY WHERE that value is the first of its line, and its line the first of the list, to break its rule.
--   Sound j                      a value keeps its rule
--   good_fields, fields_good     a line is judged good exactly where each of its values is
--   fields_first, first_fields   the field that is found in a line
--   values-first, first-values   the line that the stage of the values finds
--   value-refused                THE THEOREM
use Prim.Native.Nat.{ℕ, suc, ◌+◌, ◌-◌}
use native.Mathlib.Omega.{arith}
use mathlib.Core.Bool.{Bool, true, false}
use mathlib.Core.List.{List, [], ◌∷◌, ◌++◌}
use mathlib.Core.Logic.{◌↔◌}
use mathlib.Core.Path.{◌≡◌, refl, ap, sym, subst, ◌∙◌}
use borrow.Author.Tests.{leb-true}
use lib.Dec.{T, leb}
use lib.ListN.{length}
use Rattle.std.specs.Prelude.{Err, Ok}
use Rattle.laws.specs.Bytes.{Bytes, between}
use Rattle.laws.specs.Lists.{All, number, FirstNot}
use Rattle.laws.proofs.Counts.{here-not, later-not}
use Rattle.laws.proofs.Tests.{and_l, and_r, T_true, true-T}
use Rattle.profile.specs.Limits.{most_bytes, most_ceiling, most_collections}
use Rattle.profile.specs.declared.Flaw.{Flaw}
use Rattle.profile.specs.declared.ListRefusal.{ListRefusal}
use Rattle.profile.specs.declared.ListRefusal.TheVariants.{TooLong, Ceiling, NotAFrame, NoCollection, TooManyCollections, Value}
use Rattle.text.specs.Rules.{Judged, good}
use Rattle.frames.specs.Lines.{Line, lines}
use Rattle.frames.specs.Hex.{unhex}
use Rattle.frames.specs.Frames.{frame_of, is_frame}
use Rattle.daylist.specs.declared.BadField.{BadField}
use Rattle.daylist.specs.Values.{JudgedLine, bad, judged_fields, else, first_bad, judged_line}
use Rattle.daylist.specs.Stages.{JudgedList, must, next, frames_from, of_line, values_from, collections_of, judged_lines, judged_list}
use Rattle.daylist.specs.Breaks.{GoodValues, ValueBreaks}
use Rattle.daylist.proofs.Goods.{must-good}
use Rattle.daylist.proofs.Stops.{list-lines, lines-bad}

-- ─── the values of a line ───

abbrev pub Sound : Judged → Type 0
Sound j = T (good j)

pub good_fields : (k : ℕ) (js : List Judged) → All Sound js → first_bad k js ≡ Ok tt
good_fields k [] h = refl
good_fields k (Ok n ∷ js) h = good_fields (k + 1) js h.1
good_fields k (Err f ∷ js) h = absurd h.0

pub fields_good : (k : ℕ) (js : List Judged) → first_bad k js ≡ Ok tt → All Sound js
fields_good k [] e = tt
fields_good k (Ok n ∷ js) e = (tt, fields_good (k + 1) js e)
fields_good k (Err f ∷ js) e = absurd (let z : ◌≡◌ {A = ℕ} 0 1 = cc in omega arith)

-- a value with its number
abbrev SoundAt : ℕ × Judged → Type 0
SoundAt x = Sound x.1

-- a value that keeps its rule leaves it to those after it
sound-else : (i : ℕ) (j : Judged) (l : JudgedLine) → Sound j → else i j l ≡ l
sound-else i (Ok n) l h = refl
sound-else i (Err f) l h = absurd h

pub fields_first : (k : ℕ) (js : List Judged) (f : Flaw) (i : ℕ) → first_bad k js ≡ bad f i → FirstNot SoundAt (number (k + 1) js) (i, Err f)
fields_first k [] f i e = absurd (let z : ◌≡◌ {A = ℕ} 0 1 = cc in omega arith)
fields_first k (Ok n ∷ js) f i e =
    let z : k + 1 + 1 ≡ suc (k + 1) = omega arith in
    later-not SoundAt (k + 1, Ok n) (i, Err f) (number (suc (k + 1)) js) tt (subst (λ (m : ℕ). FirstNot SoundAt (number m js) (i, Err f)) z (fields_first (k + 1) js f i e))
fields_first k (Err g ∷ js) f i e =
    let r : ◌≡◌ {A = BadField} (record { flaw = g; field = k + 1 }) (record { flaw = f; field = i }) = cc in
    let a : k + 1 ≡ i = ap (λ (b : BadField). b.field) r in
    let b : g ≡ f = ap (λ (b : BadField). b.flaw) r in
    let c : ◌≡◌ {A = ℕ × Judged} (k + 1, Err g) (i, Err f) = λ m. (a m, Err (b m)) in
    subst (λ (x : ℕ × Judged). FirstNot SoundAt ((k + 1, Err g) ∷ number (suc (k + 1)) js) x) c (here-not SoundAt (k + 1, Err g) (number (suc (k + 1)) js) (λ h. h))

pub first_fields : (k : ℕ) (js : List Judged) (f : Flaw) (i : ℕ) (before after : List (ℕ × Judged)) → number (k + 1) js ≡ before ++ (i, Err f) ∷ after → All SoundAt before → first_bad k js ≡ bad f i
first_fields k [] f i [] after w h = absurd (let z : ◌≡◌ {A = ℕ} 0 1 = cc in omega arith)
first_fields k [] f i (x ∷ before) after w h = absurd (let z : ◌≡◌ {A = ℕ} 0 1 = cc in omega arith)
first_fields k (j ∷ js) f i [] after w h =
    let e : ◌≡◌ {A = ℕ × Judged} (k + 1, j) (i, Err f) = cc in
    ap (λ (x : ℕ × Judged). else x.0 x.1 (first_bad (k + 1) js)) e
first_fields k (j ∷ js) f i (y ∷ before) after w h =
    let e : ◌≡◌ {A = ℕ × Judged} (k + 1, j) y = cc in
    let t : number (suc (k + 1)) js ≡ before ++ (i, Err f) ∷ after = cc in
    let z : suc (k + 1) ≡ k + 1 + 1 = omega arith in
    sound-else (k + 1) j (first_bad (k + 1) js) (subst (λ (x : ℕ × Judged). SoundAt x) (sym e) h.0) ∙ first_fields (k + 1) js f i before after (rw (← z) t) h.1

good_or_bad : {f : Flaw} {i : ℕ} → ◌≡◌ {A = JudgedLine} (Ok tt) (bad f i) → ⊥
good_or_bad e = let z : ◌≡◌ {A = ℕ} 0 1 = cc in omega arith

-- ─── the lines ───

abbrev Framed : ℕ × Line → Type 0
Framed x = T (is_frame (frame_of x.0) x.1)

abbrev Valued : ℕ × Line → Type 0
Valued x = GoodValues x.0 (unhex x.1.bytes)

frames-all : (k n : ℕ) (ls : List Line) → frames_from k ls ≡ Ok n → All Framed (number (k + 1) ls)
frames-all k n [] e = tt
frames-all k n (l ∷ ls) e =
    let x = must-good (is_frame (frame_of (k + 1)) l) (NotAFrame (k + 1)) (frames_from (k + 1) ls) n e in
    let z : k + 1 + 1 ≡ suc (k + 1) = omega arith in
    (true-T _ x.0, subst (λ (m : ℕ). All Framed (number m ls)) z (frames-all (k + 1) n ls x.1))

all-frames : (k : ℕ) (ls : List Line) → All Framed (number (k + 1) ls) → frames_from k ls ≡ Ok (k + length ls)
all-frames k [] h = let z : k + 0 ≡ k = omega arith in rw z
all-frames k (l ∷ ls) h =
    let z : suc (k + 1) ≡ k + 1 + 1 = omega arith in
    let e : k + 1 + length ls ≡ k + suc (length ls) = omega arith in
    rw (T_true (is_frame (frame_of (k + 1)) l) h.0) (all-frames (k + 1) ls (subst (λ (m : ℕ). All Framed (number m ls)) z h.1) ∙ ap Ok e)

-- 23 is another refusal
frames-else : (k : ℕ) (ls : List Line) (f : Flaw) (n i : ℕ) → frames_from k ls ≡ Err (Value f n i) → ⊥
frames-else k [] f n i e = let z : ◌≡◌ {A = ℕ} 0 1 = cc in omega arith
frames-else k (l ∷ ls) f n i e = go (is_frame (frame_of (k + 1)) l) e (frames-else (k + 1) ls f n i)
  where
    go : (b : Bool) → must b (NotAFrame (k + 1)) (frames_from (k + 1) ls) ≡ Err (Value f n i) → (frames_from (k + 1) ls ≡ Err (Value f n i) → ⊥) → ⊥
    go true e r = r e
    go false e r = let z : ◌≡◌ {A = ℕ} 0 1 = cc in omega arith

-- line n is the first of the lines ls of which a value breaks its rule, as it is judged; they are numbered from k on
abbrev FirstBad : ℕ → List Line → Flaw → ℕ → ℕ → Type 0
FirstBad k ls f n i = (l : Line) × (FirstNot Valued (number k ls) (n, l) × (judged_line n (unhex l.bytes) ≡ bad f i))

pub values-first : (k : ℕ) (ls : List Line) (f : Flaw) (n i : ℕ) → values_from k ls ≡ Err (Value f n i) → FirstBad (k + 1) ls f n i
values-first k [] f n i e = absurd (let z : ◌≡◌ {A = ℕ} 0 1 = cc in omega arith)
values-first k (l ∷ ls) f n i e = go (judged_line (k + 1) (unhex l.bytes)) refl e (values-first (k + 1) ls f n i)
  where
    go : (j : JudgedLine) → judged_line (k + 1) (unhex l.bytes) ≡ j → of_line j (k + 1) (values_from (k + 1) ls) ≡ Err (Value f n i)
        → (values_from (k + 1) ls ≡ Err (Value f n i) → FirstBad (k + 1 + 1) ls f n i) → FirstBad (k + 1) (l ∷ ls) f n i
    go (Ok u) d e r =
        let z : k + 1 + 1 ≡ suc (k + 1) = omega arith in
        let b = subst (λ (m : ℕ). FirstBad m ls f n i) z (r e) in
        (b.0, (later-not Valued (k + 1, l) (n, b.0) (number (suc (k + 1)) ls) (fields_good 0 (judged_fields (k + 1) (unhex l.bytes)) d) b.1.0, b.1.1))
    go (Err b) d e r =
        let at-line : k + 1 ≡ n = cc in
        let same : bad b.flaw b.field ≡ bad f i = cc in
        let here = here-not Valued (k + 1, l) (number (suc (k + 1)) ls) (λ h. good_or_bad (sym (good_fields 0 (judged_fields (k + 1) (unhex l.bytes)) h) ∙ d)) in
        subst (λ (m : ℕ). FirstBad (k + 1) (l ∷ ls) f m i) at-line (l, (here, d ∙ same))

pub first-values : (k : ℕ) (ls : List Line) (f : Flaw) (n i : ℕ) (l : Line) (before after : List (ℕ × Line)) → number (k + 1) ls ≡ before ++ (n, l) ∷ after → All Valued before
    → judged_line n (unhex l.bytes) ≡ bad f i → values_from k ls ≡ Err (Value f n i)
first-values k [] f n i l [] after w h b = absurd (let z : ◌≡◌ {A = ℕ} 0 1 = cc in omega arith)
first-values k [] f n i l (x ∷ before) after w h b = absurd (let z : ◌≡◌ {A = ℕ} 0 1 = cc in omega arith)
first-values k (x ∷ ls) f n i l [] after w h b =
    let e : ◌≡◌ {A = ℕ × Line} (k + 1, x) (n, l) = cc in
    ap (λ (v : ℕ × Line). of_line (judged_line v.0 (unhex v.1.bytes)) v.0 (values_from (k + 1) ls)) e ∙ ap (λ (j : JudgedLine). of_line j n (values_from (k + 1) ls)) b
first-values k (x ∷ ls) f n i l (y ∷ before) after w h b =
    let e : ◌≡◌ {A = ℕ × Line} (k + 1, x) y = cc in
    let t : number (suc (k + 1)) ls ≡ before ++ (n, l) ∷ after = cc in
    let z : suc (k + 1) ≡ k + 1 + 1 = omega arith in
    let g : Valued (k + 1, x) = subst (λ (v : ℕ × Line). Valued v) (sym e) h.0 in
    ap (λ (j : JudgedLine). of_line j (k + 1) (values_from (k + 1) ls)) (good_fields 0 (judged_fields (k + 1) (unhex x.bytes)) g)
    ∙ first-values (k + 1) ls f n i l before after (rw (← z) t) h.1 b

-- ─── the theorem ───

module _ (f : Flaw) (n i : ℕ) where
  must-else : (b : Bool) (r : ListRefusal) (j : JudgedList) → (r ≡ Value f n i → ⊥) → must b r j ≡ Err (Value f n i) → (b ≡ true) × (j ≡ Err (Value f n i))
  must-else true r j h e = (refl, e)
  must-else false r j h e = absurd (h (cc))

  next-else : (a j : JudgedList) → (a ≡ Err (Value f n i) → ⊥) → next a j ≡ Err (Value f n i) → ((m : ℕ) × (a ≡ Ok m)) × (j ≡ Err (Value f n i))
  next-else (Ok m) j h e = ((m, refl), e)
  next-else (Err r) j h e = absurd (h e)

  -- what is found in the last stage is found by it
  next-found : (a : JudgedList) (m : ℕ) → next a (Ok m) ≡ Err (Value f n i) → a ≡ Err (Value f n i)
  next-found (Ok k) m e = absurd (let z : ◌≡◌ {A = ℕ} 0 1 = cc in omega arith)
  next-found (Err r) m e = e

module _ (s : Bytes) (c : ℕ) (f : Flaw) (n i : ℕ) where
  refused-breaks : judged_list s c ≡ Err (Value f n i) → ValueBreaks s c f n i
  refused-breaks e =
      let ls : List Line = lines s in
      let a = must-else f n i (leb (length s) most_bytes) TooLong (must (between 1 most_ceiling c) Ceiling (judged_lines ls)) (λ d. let z : ◌≡◌ {A = ℕ} 0 1 = cc in omega arith) e in
      let b = must-else f n i (between 1 most_ceiling c) Ceiling (judged_lines ls) (λ d. let z : ◌≡◌ {A = ℕ} 0 1 = cc in omega arith) a.1 in
      let last : JudgedList = next (values_from 0 ls) (Ok (length ls - 1)) in
      let g = next-else f n i (frames_from 0 ls) (collections_of (length ls) last) (frames-else 0 ls f n i) b.1 in
      let few : JudgedList = must (leb (length ls) (1 + most_collections)) TooManyCollections last in
      let p = must-else f n i (leb 2 (length ls)) (NoCollection (length ls)) few (λ d. let z : ◌≡◌ {A = ℕ} 0 1 = cc in omega arith) g.1 in
      let q = must-else f n i (leb (length ls) (1 + most_collections)) TooManyCollections last (λ d. let z : ◌≡◌ {A = ℕ} 0 1 = cc in omega arith) p.1 in
      let v = values-first 0 ls f n i (next-found f n i (values_from 0 ls) (length ls - 1) q.1) in
      let t = true-T (between 1 most_ceiling c) b.0 in
      record {
        short = leb-true (length s) most_bytes a.0;
        ceiling = (leb-true 1 c (T_true (leb 1 c) (and_l (leb 1 c) (leb c most_ceiling) t)), leb-true c most_ceiling (T_true (leb c most_ceiling) (and_r (leb 1 c) (leb c most_ceiling) t)));
        frames = frames-all 0 g.0.0 ls g.0.1;
        count = (leb-true 2 (length ls) p.0, leb-true (length ls) (1 + most_collections) q.0);
        line = v.0;
        first = v.1.0;
        field = fields_first 0 (judged_fields n (unhex v.0.bytes)) f i v.1.1;
      }

  breaks-refused : ValueBreaks s c f n i → judged_list s c ≡ Err (Value f n i)
  breaks-refused b =
      let ls : List Line = lines s in
      let j = first_fields 0 (judged_fields n (unhex b.line.bytes)) f i b.field.before b.field.after b.field.whole b.field.held in
      let v = first-values 0 ls f n i b.line b.first.before b.first.after b.first.whole b.first.held j in
      let z : 0 + length ls ≡ length ls = omega arith in
      let g : frames_from 0 ls ≡ Ok (length ls) = all-frames 0 ls b.frames ∙ ap Ok z in
      list-lines s c b.short b.ceiling ∙ lines-bad ls (length ls) g b.count.0 b.count.1 (Value f n i) v

  pub value-refused : (judged_list s c ≡ Err (Value f n i)) ↔ ValueBreaks s c f n i
  value-refused = (refused-breaks, breaks-refused)
