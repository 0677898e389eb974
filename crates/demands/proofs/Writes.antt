-- DEMANDS 1 TO 3, OF WHAT THE WRITER ANSWERS AND LEAVES IN THE OUTPUT.
--   Outcome, outcome   the four ways in which writing ends: the list is refused; 27; 28; written
--   numbers, keeps, fixed, fewest, given_room, too_many, values, values-at, no_field   the demands, of each of them
use Prim.Native.Nat.{ℕ, ◌+◌, ◌≤◌, ◌<◌}
use native.Mathlib.Omega.{arith}
use native.Mathlib.Decide.{dec_le}
use mathlib.Core.List.{List}
use mathlib.Core.Logic.{◌⊎◌, inl, inr, ◌↔◌}
use mathlib.Core.Path.{◌≡◌, refl, ap, sym, subst, ◌∙◌}
use borrow.Author.Tests.{le-leb, lt-leb}
use lib.ListN.{length, take, drop}
use lib.Seq.{take_at}
use Rattle.std.specs.Prelude.{Err, Ok}
use Rattle.laws.specs.Bytes.{Bytes}
use Rattle.laws.specs.Lists.{All}
use Rattle.laws.specs.Put.{put_at}
use Rattle.laws.proofs.Counts.{All-map}
use Rattle.profile.specs.Limits.{most_bytes, most_batches}
use Rattle.profile.specs.Refusals.{fault, flaw_number, list_fault_of, list_number_of, list_place_of, list_field_of}
use Rattle.profile.specs.Numbers.{TextNumber, JudgedNumber, WriteNumber}
use Rattle.profile.specs.declared.Flaw.{Flaw}
use Rattle.profile.specs.declared.ListRefusal.{ListRefusal}
use Rattle.profile.specs.declared.ListRefusal.TheVariants.{TooLong, Ceiling, NotAFrame, NoCollection, TooManyCollections, Value, TooManyBatches, OutputTooShort}
use Rattle.profile.proofs.Faults.{flaw-number, flaw-once}
use Rattle.tree.specs.Form.{Message}
use Rattle.tree.specs.Pain008.{document}
use Rattle.message.specs.Verdict.{Verdict, Verdict.accepted}
use Rattle.answer.specs.Said.{said}
use Rattle.promise.specs.Check.{Checks}
use Rattle.daylist.specs.Stages.{JudgedList, judged_list}
use Rattle.daylist.specs.Breaks.{ValueBreaks}
use Rattle.daylist.proofs.Breaks.{value-refused}
use Rattle.daylist.proofs.Early.{Early, list-early}
use Rattle.daylist.proofs.Goods.{good-list}
use Rattle.bundle.specs.Bundle.{Fits}
use Rattle.bundle.proofs.Batches.{batches-fit, batches-number}
use Rattle.collections.specs.Listed.{Collection, same_terms, listed}
use Rattle.collections.proofs.Terms.{terms_decide}
use Rattle.collections.proofs.Goods.{good-number}
use Rattle.written.specs.Written.{batches_for, message_for, written}
use Rattle.write.specs.Write.{Answer, Answer.success, Answer.refused, batches_needed, fitted, bundled, as_judged, output_after, answer_for, output_for}
use Rattle.carries.specs.Carried.{carried_by, CarriesList}
use Rattle.carries.proofs.Lists.{list-carried, list-carries, list-fewest, list-refused, list-checked}
use Rattle.desk.specs.declared.DeskWritten.{DeskWritten}
use Rattle.desk.specs.Answers.{checked_numbers, written_numbers}
use Rattle.demands.specs.Demands.{MeetsNone, FixedMessage, FewestBatches}

-- ─── how writing ends ───

-- the answer w in numbers, and the output out' afterwards
pub data Outcome (s : Bytes) (c : ℕ) (out : Bytes) (w : DeskWritten) (out' : Bytes) : Type 0 where
  bad : (r : ListRefusal) → judged_list s c ≡ Err r → JudgedNumber (list_number_of r) → w ≡ written_numbers (refused (list_fault_of r)) → out' ≡ out → Outcome s c out w out'
  many : (n : ℕ) → judged_list s c ≡ Ok n → most_batches < batches_needed s c → w.number ≡ 27 → w.field ≡ 0 → out' ≡ out → Outcome s c out w out'
  long : (n : ℕ) → judged_list s c ≡ Ok n → batches_needed s c ≤ most_batches → length out < length (written s c) → w.number ≡ 28 → w.field ≡ 0 → out' ≡ out → Outcome s c out w out'
  done : (n : ℕ) → judged_list s c ≡ Ok n → batches_needed s c ≤ most_batches → w ≡ record { number = 0; place = length (written s c); field = 0 } → out' ≡ put_at out 0 (written s c)
      → Outcome s c out w out'

module _ (s : Bytes) (c : ℕ) (out : Bytes) where
  -- the outcome of an answer
  abbrev Ends : Answer → Type 0
  Ends w = Outcome s c out (written_numbers w) (output_after w (written s c) out)

  fits : Dec (length (written s c) ≤ length out) → (n : ℕ) → judged_list s c ≡ Ok n → batches_needed s c ≤ most_batches → Ends (fitted (written s c) (length out))
  fits (yes r) n e l =
      let h : fitted (written s c) (length out) ≡ success (length (written s c)) = rw (le-leb (length (written s c)) (length out) r, fitted) in
      subst Ends (sym h) (done n e l refl refl)
  fits (no r) n e l =
      let x : length out < length (written s c) = omega arith in
      let h : fitted (written s c) (length out) ≡ refused (fault 28 (length (written s c))) = rw (lt-leb (length (written s c)) (length out) x, fitted) in
      subst Ends (sym h) (long n e l x refl refl refl)

  bundles : Dec (batches_needed s c ≤ most_batches) → (n : ℕ) → judged_list s c ≡ Ok n → Ends (bundled (batches_needed s c) (fitted (written s c) (length out)))
  bundles (yes l) n e =
      let w : Answer = fitted (written s c) (length out) in
      let h : bundled (batches_needed s c) w ≡ w = rw (le-leb (batches_needed s c) most_batches l, bundled) in
      subst Ends (sym h) (fits (dec_le (length (written s c)) (length out)) n e l)
  bundles (no l) n e =
      let x : most_batches < batches_needed s c = omega arith in
      let h : bundled (batches_needed s c) (fitted (written s c) (length out)) ≡ refused (fault 27 (batches_needed s c)) = rw (lt-leb (batches_needed s c) most_batches x, bundled) in
      subst Ends (sym h) (many n e x refl refl refl)

  judges : (j : JudgedList) → judged_list s c ≡ j → Early j → Ends (as_judged j (bundled (batches_needed s c) (fitted (written s c) (length out))))
  judges (Ok n) e h = bundles (dec_le (batches_needed s c) most_batches) n e
  judges (Err r) e h = bad r e h refl refl

  pub outcome : Outcome s c out (written_numbers (answer_for s c (length out))) (output_for s c out)
  unfolding answer_for output_for
  outcome = judges (judged_list s c) refl (list-early s c)

-- ─── the demands of each outcome ───

short : (s : Bytes) (c n : ℕ) → judged_list s c ≡ Ok n → batches_needed s c ≤ most_batches → length (written s c) ≤ most_bytes
unfolding written
short s c n e l = (list-carries s c n e l).accepted.belongs.short

-- none of the numbers of a list that is judged is 0
above : (n : ℕ) → JudgedNumber n → n ≡ 0 → ⊥
above n (inl x) e = omega arith
above n (inr x) e = omega arith

-- a refusal with one of 51 to 58 is that of a value, and no other has a field
of-value : (r : ListRefusal) → TextNumber (list_number_of r) → (f : Flaw) × (r ≡ Value f (list_place_of r) (list_field_of r))
of-value TooLong x = absurd (omega arith)
of-value Ceiling x = absurd (omega arith)
of-value (NotAFrame line) x = absurd (omega arith)
of-value (NoCollection lines) x = absurd (omega arith)
of-value TooManyCollections x = absurd (omega arith)
of-value (Value f line i) x = (f, refl)
of-value (TooManyBatches n) x = absurd (omega arith)
of-value (OutputTooShort n) x = absurd (omega arith)

fieldless : (r : ListRefusal) → (TextNumber (list_number_of r) → ⊥) → list_field_of r ≡ 0
fieldless TooLong x = refl
fieldless Ceiling x = refl
fieldless (NotAFrame line) x = refl
fieldless (NoCollection lines) x = refl
fieldless TooManyCollections x = refl
fieldless (Value f line i) x = absurd (x (flaw-number f))
fieldless (TooManyBatches n) x = refl
fieldless (OutputTooShort n) x = refl

module _ (s : Bytes) (c : ℕ) (out : Bytes) (w : DeskWritten) (out' : Bytes) where
  -- the number of a list that is refused
  judged : (r : ListRefusal) → JudgedNumber (list_number_of r) → w ≡ written_numbers (refused (list_fault_of r)) → JudgedNumber w.number
  judged r a x = subst JudgedNumber (sym (ap (λ (v : DeskWritten). v.number) x)) a

  pub numbers : Outcome s c out w out' → (w.number ≡ 0) ⊎ WriteNumber w.number
  numbers (bad r j a x k) = inr (inl (judged r a x))
  numbers (many n e l x y k) = inr (inr (omega arith, omega arith))
  numbers (long n e l r x y k) = inr (inr (omega arith, omega arith))
  numbers (done n e l x k) = inl (ap (λ (v : DeskWritten). v.number) x)

  pub keeps : Outcome s c out w out' → (w.number ≡ 0 → ⊥) → out' ≡ out
  keeps (bad r j a x k) h = k
  keeps (many n e l x y k) h = k
  keeps (long n e l r x y k) h = k
  keeps (done n e l x k) h = absurd (h (ap (λ (v : DeskWritten). v.number) x))

  -- a written list
  pub record Done : Type 0 where
    pub collections : ℕ
    pub good : judged_list s c ≡ Ok collections
    pub few : batches_needed s c ≤ most_batches
    pub place : w.place ≡ length (written s c)
    pub output : out' ≡ put_at out 0 (written s c)

  pub is-done : Outcome s c out w out' → w.number ≡ 0 → Done
  is-done (bad r j a x k) h = absurd (above w.number (judged r a x) h)
  is-done (many n e l x y k) h = absurd (omega arith)
  is-done (long n e l r x y k) h = absurd (omega arith)
  is-done (done n e l x k) h = record { collections = n; good = e; few = l; place = ap (λ (v : DeskWritten). v.place) x; output = k }

  module _ (d : Done) where
    carried : length (carried_by (message_for s c)) ≡ batches_needed s c
    carried =
        ap (λ (bs : List (List Collection)). length bs) (list-carried s c d.collections d.good d.few)
        ∙ batches-number (λ x. x.terms) same_terms terms_decide c (listed s) (good-list s c d.collections d.good).least

    front : take w.place out' ≡ written s c
    unfolding put_at
    front =
        ap (λ (l : Bytes). take w.place l) d.output
        ∙ take_at (written s c) (drop (0 + length (written s c)) out) w.place (sym d.place)

    pub fixed : FixedMessage s c w.place out out'
    unfolding written
    fixed = record {
      fixed = d.output;
      long = d.place;
      short = subst (λ (k : ℕ). k ≤ most_bytes) (sym d.place) (short s c d.collections d.good d.few);
      checked = λ t y h a b.
          let many : length (listed s) ≡ d.collections = good-number s c d.collections d.good in
          let v : Verdict = said y.0 in
          let k : Checks (written s c) t.slips t.rows v y.1.slips y.1.rows = subst (λ (l : Bytes). Checks l t.slips t.rows v y.1.slips y.1.rows) front h in
          ap checked_numbers (list-checked s c d.collections d.good t.slips t.rows v y.1.slips y.1.rows d.few k (omega (arith, many)) (omega (arith, carried)))
          ∙ rw (← carried, ← many) refl;
    }

    pub fewest : FewestBatches s c
    fewest = record {
      carries = list-carries s c d.collections d.good d.few;
      own-terms = subst (λ (bs : List (List Collection)). All (Fits (λ x. x.terms) c) bs) (sym (list-carried s c d.collections d.good d.few))
          (All-map (λ b. (1 ≤ length b) × Fits (λ x. x.terms) c b) (Fits (λ x. x.terms) c) (batches_for s c) (λ b p. p.1) (batches-fit (λ x. x.terms) same_terms terms_decide c (listed s) (good-list s c d.collections d.good).least));
      fewest = λ m l.
          subst (λ (bs : List (List Collection)). length bs ≤ length (carried_by m)) (sym (list-carried s c d.collections d.good d.few))
          (list-fewest s c d.collections d.good m l);
    }

  pub given_room : Outcome s c out w out' → MeetsNone w.number → most_bytes ≤ length out → (w.number ≡ 0) ⊎ (w.number ≡ 27)
  given_room (bad q j a x k) h r = absurd (h (judged q a x))
  given_room (many n e l x y k) h r = inr x
  given_room (long n e l q x y k) h r = absurd (omega (arith, short s c n e l))
  given_room (done n e l x k) h r = inl (ap (λ (v : DeskWritten). v.number) x)

  pub too_many : Outcome s c out w out' → MeetsNone w.number → (w.number ≡ 27) ↔ ((m : Message document) → CarriesList m c (listed s) → ⊥)
  too_many (bad r j a x k) h = absurd (h (judged r a x))
  too_many (many n e l x y k) h = (λ z. (list-refused s c n e).0 l, λ f. x)
  too_many (long n e l r x y k) h = (λ z. absurd (omega arith), λ f. absurd (omega (arith, (list-refused s c n e).1 f)))
  too_many (done n e l x k) h = (λ z. absurd (omega (arith, ap (λ (v : DeskWritten). v.number) x)), λ f. absurd (omega (arith, (list-refused s c n e).1 f)))

  module _ (f : Flaw) (n i : ℕ) where
    abbrev Told : Type 0
    Told = (w.number ≡ flaw_number f) × ((w.place ≡ n) × (w.field ≡ i))

    -- a list that is judged good has no such value
    none-breaks : (m : ℕ) → judged_list s c ≡ Ok m → ValueBreaks s c f n i → ⊥
    none-breaks m e b =
        let d = sym e ∙ (value-refused s c f n i).1 b in
        let z : ◌≡◌ {A = ℕ} 0 1 = cc in
        omega arith

    value-breaks : Outcome s c out w out' → Told → ValueBreaks s c f n i
    value-breaks (bad r j a x k) (t, (d, g)) =
        let u : list_number_of r ≡ flaw_number f = sym (ap (λ (v : DeskWritten). v.number) x) ∙ t in
        let y = of-value r (subst TextNumber (sym u) (flaw-number f)) in
        let same : y.0 ≡ f = flaw-once y.0 f (sym (ap list_number_of y.1) ∙ u) in
        let place : list_place_of r ≡ n = sym (ap (λ (v : DeskWritten). v.place) x) ∙ d in
        let field : list_field_of r ≡ i = sym (ap (λ (v : DeskWritten). v.field) x) ∙ g in
        (value-refused s c f n i).0 (j ∙ ap Err (y.1 ∙ λ m. Value (same m) (place m) (field m)))
    value-breaks (many m e l x y k) (t, d) = absurd (omega (arith, flaw-number f))
    value-breaks (long m e l r x y k) (t, d) = absurd (omega (arith, flaw-number f))
    value-breaks (done m e l x k) (t, d) = absurd (omega (arith, ap (λ (v : DeskWritten). v.number) x, flaw-number f))

    value-told : Outcome s c out w out' → ValueBreaks s c f n i → Told
    value-told (bad r j a x k) b =
        let d = sym j ∙ (value-refused s c f n i).1 b in
        let e : r ≡ Value f n i = cc in
        let g : w ≡ written_numbers (refused (list_fault_of (Value f n i))) = x ∙ ap (λ (q : ListRefusal). written_numbers (refused (list_fault_of q))) e in
        (ap (λ (v : DeskWritten). v.number) g, (ap (λ (v : DeskWritten). v.place) g, ap (λ (v : DeskWritten). v.field) g))
    value-told (many m e l x y k) b = absurd (none-breaks m e b)
    value-told (long m e l r x y k) b = absurd (none-breaks m e b)
    value-told (done m e l x k) b = absurd (none-breaks m e b)

    pub values : Outcome s c out w out' → Told ↔ ValueBreaks s c f n i
    values o = (value-breaks o, value-told o)

  -- whatever the field
  pub values-at : (f : Flaw) (n : ℕ) → Outcome s c out w out' → ((w.number ≡ flaw_number f) × (w.place ≡ n)) ↔ ((i : ℕ) × ValueBreaks s c f n i)
  values-at f n o = (λ x. (w.field, (values f n w.field o).0 (x.0, (x.1, refl))), λ x. let y = (values f n x.0 o).1 x.1 in (y.0, y.1.0))

  pub no_field : Outcome s c out w out' → (TextNumber w.number → ⊥) → w.field ≡ 0
  no_field (bad r j a x k) h = ap (λ (v : DeskWritten). v.field) x ∙ fieldless r (λ t. h (subst TextNumber (sym (ap (λ (v : DeskWritten). v.number) x)) t))
  no_field (many m e l x y k) h = y
  no_field (long m e l r x y k) h = y
  no_field (done m e l x k) h = ap (λ (v : DeskWritten). v.field) x
