-- DEMANDS 1 AND 2, OF EVERY OUTCOME OF THE CHECK: its verdict in numbers, and both tables.
--   rows_tell   the rows of a table say what each batch declares, and where it declares nothing
--   numbers, keeps, exactly, of-message, belongs, answers, absent, texts, addresses   the sentences of the demands
use Prim.Native.Nat.{ℕ, ◌+◌, ◌*◌, ◌≤◌}
use native.Mathlib.Omega.{arith}
use mathlib.Core.List.{List, [], ◌∷◌, ◌++◌, append_assoc}
use mathlib.Core.Logic.{◌⊎◌, inl, inr, ◌↔◌}
use mathlib.Core.Option.{Option, none, some}
use mathlib.Core.Path.{◌≡◌, refl, ap, sym, subst, ◌∙◌}
use lib.ListN.{length, take, drop, get_or}
use Rattle.laws.specs.Bytes.{Bytes}
use Rattle.laws.specs.Put.{put_at}
use Rattle.profile.specs.Limits.{most_bytes}
use Rattle.profile.specs.declared.Flaw.{Flaw}
use Rattle.profile.specs.Refusals.{Fault, flaw_number}
use Rattle.profile.specs.Numbers.{BeforeTotals, CheckNumber}
use Rattle.profile.proofs.Faults.{flaw-number}
use Rattle.profile.specs.declared.Totals.{Totals}
use Rattle.tree.specs.Form.{Message, message}
use Rattle.tree.specs.Pain008.{document, declaration}
use Rattle.message.specs.declared.Told.{Told}
use Rattle.message.specs.Message.{Batch, batches_of, exact_count, exact_sum, worth_of}
use Rattle.message.specs.Verdict.{Verdict, Verdict.accepted, Verdict.refused, declared, row, rows_from, rows_of, totals_of}
use Rattle.promise.specs.Check.{said_by, room_of, table_after, Long, OutOfForm, ByStages, Checks}
use Rattle.promise.specs.Demand2.{InProfile, AllAgree, Belongs, Enough}
use Rattle.promise.specs.Texts.{TextBreaks}
use Rattle.promise.specs.Addresses.{AddressBreaks}
use Rattle.promise.proofs.Outcome.{same-said, refusal-keeps}
use Rattle.promise.proofs.Numbers.{refusal-number, belongs-exactly}
use Rattle.promise.proofs.Stops.{At}
use Rattle.promise.proofs.Texts.{text-refused}
use Rattle.promise.proofs.Addresses.{address-refused}
use Rattle.promise.proofs.Demand2.{demand_2_accepts, demand_2_only}
use Rattle.carries.specs.Carried.{Accepted}
use Rattle.desk.specs.Answers.{checked_numbers}
use Rattle.demands.specs.Demands.{Tells, RowsTell}

-- ─── what is absent ───

-- two declarations in a row, between numbers
tells : (a b : Option Told) (m n c e : ℕ) (l : List ℕ) →
    let r : List ℕ = (m ∷ n ∷ c ∷ (declared a ++ (declared b ++ (e ∷ [])))) ++ l in
    (Tells a (get_or (take 8 r) 3 0) (get_or (take 8 r) 4 0) × Tells b (get_or (take 8 r) 5 0) (get_or (take 8 r) 6 0)) × (drop 8 r ≡ l)
tells none none m n c e l = (((refl, refl), (refl, refl)), refl)
tells none (some t) m n c e l = (((refl, refl), (refl, refl)), refl)
tells (some t) none m n c e l = (((refl, refl), (refl, refl)), refl)
tells (some t) (some u) m n c e l = (((refl, refl), (refl, refl)), refl)

pub rows_tell : (m : ℕ) (bs : List Batch) (l : List ℕ) → RowsTell bs (rows_from m bs ++ l)
rows_tell m [] l = tt
rows_tell m (b ∷ bs) l =
    let r : List ℕ = rows_from (m + exact_count b) bs ++ l in
    let h = tells b.declared_count b.declared_sum m (exact_count b) (exact_sum b) (4 * worth_of b.scheme + worth_of b.sequence) r in
    subst (λ (x : List ℕ). RowsTell (b ∷ bs) x) (sym (append_assoc (row m b) (rows_from (m + exact_count b) bs) l))
    (h.0, subst (λ (x : List ℕ). RowsTell bs x) (sym h.1) (rows_tell (m + exact_count b) bs l))

-- ─── an outcome of the check ───

through : {A B C : Type 0} → A ↔ B → B ↔ C → A ↔ C
through f g = (λ x. g.0 (f.0 x), λ y. f.1 (g.1 y))

-- none of the check's numbers is 0, nor does 0 stand before 6
least : (n : ℕ) → CheckNumber n → 1 ≤ n
least n (inl (inl x)) = x.0
least n (inl (inr x)) = omega arith
least n (inr x) = omega arith

-- the number of a verdict is 0 exactly where it accepts
zero-accepts : (v : Verdict) → ((f : Fault) → v ≡ refused f → 1 ≤ f.number) → (checked_numbers v).number ≡ 0 → (t : Totals) × (v ≡ accepted t)
zero-accepts (accepted t) h e = (t, refl)
zero-accepts (refused f) h e = absurd (omega (arith, h f refl))

module _ (s : Bytes) (slips rows : List ℕ) (v : Verdict) (a b : List ℕ) (h : Checks s slips rows v a b) where
  abbrev number : ℕ
  number = (checked_numbers v).number

  accepts : number ≡ 0 → (t : Totals) × (v ≡ accepted t)
  accepts e = zero-accepts v (λ f g. least f.number (refusal-number s slips rows v a b h f g)) e

  -- an accepted message is read, and its rows are put
  read : (t : Totals) → v ≡ accepted t → ByStages s slips rows v a b
  read t e = go h.case
    where
      go : Long s slips rows v a b ⊎ (OutOfForm s slips rows v a b ⊎ ByStages s slips rows v a b) → ByStages s slips rows v a b
      go (inl q) = absurd (let z : ◌≡◌ {A = ℕ} 0 1 = cc in omega arith)
      go (inr (inl q)) = absurd (let z : ◌≡◌ {A = ℕ} 0 1 = cc in omega arith)
      go (inr (inr q)) = q

  pub numbers : (number ≡ 0) ⊎ CheckNumber number
  numbers = go v refl
    where
      go : (w : Verdict) → v ≡ w → ((checked_numbers w).number ≡ 0) ⊎ CheckNumber (checked_numbers w).number
      go (accepted t) e = inl refl
      go (refused f) e = inr (refusal-number s slips rows v a b h f e)

  pub keeps : (number ≡ 0 → ⊥) → (a ≡ slips) × (b ≡ rows)
  keeps n = go v refl
    where
      go : (w : Verdict) → v ≡ w → (a ≡ slips) × (b ≡ rows)
      go (accepted t) e = absurd (n (ap (λ (w : Verdict). (checked_numbers w).number) e))
      go (refused f) e = refusal-keeps s slips rows f a b (subst (λ (w : Verdict). Checks s slips rows w a b) e h)

  pub exactly : (number ≡ 0) ↔ ((m : Message document) × ((message declaration m ≡ s) × (Accepted m × Enough (room_of slips rows) (said_by m))))
  exactly = (to, from)
    where
      to : number ≡ 0 → (m : Message document) × ((message declaration m ≡ s) × (Accepted m × Enough (room_of slips rows) (said_by m)))
      to e =
          let t = accepts e in
          let d = demand_2_only s slips rows v a b h t.0 t.1 in
          let p : Belongs s d.0 = d.1.0 in
          (d.0, (p.bytes, (record { belongs = subst (λ (u : Bytes). Belongs u d.0) (sym p.bytes) p; agree = d.1.1.0 }, d.1.1.1)))

      from : (m : Message document) × ((message declaration m ≡ s) × (Accepted m × Enough (room_of slips rows) (said_by m))) → number ≡ 0
      from (m, (e, (p, q))) =
          ap (λ (w : Verdict). (checked_numbers w).number) (demand_2_accepts s slips rows v a b h m (subst (λ (u : Bytes). Belongs u m) e p.belongs) p.agree q)

  pub of-message : (m : Message document) → message declaration m ≡ s → Enough (room_of slips rows) (said_by m) → (number ≡ 0) ↔ Accepted m
  of-message m e q = (to, λ p. exactly.1 (m, (e, (p, q))))
    where
      to : number ≡ 0 → Accepted m
      to z =
          let d = exactly.0 z in
          let n : Message document = d.0 in
          let same : said_by n ≡ said_by m = same-said n m s d.1.0 e in
          let p : Accepted n = d.1.1.0 in
          record {
            belongs = record {
              short = subst (λ (u : Bytes). length u ≤ most_bytes) (d.1.0 ∙ sym e) p.belongs.short;
              bytes = refl;
              profile = subst (λ (ts : List Told). InProfile ts) same p.belongs.profile;
            };
            agree = subst (λ (ts : List Told). AllAgree ts) same p.agree;
          }

  pub belongs : ((m : Message document) × Belongs s m) ↔ (BeforeTotals number → ⊥)
  belongs = (λ p. late ((belongs-exactly s slips rows v a b h).0 p), λ n. (belongs-exactly s slips rows v a b h).1 (early n))
    where
      late : ((f : Fault) → v ≡ refused f → BeforeTotals f.number → ⊥) → BeforeTotals number → ⊥
      late g x = go v refl
        where
          go : (w : Verdict) → v ≡ w → ⊥
          go (accepted t) e = absurd (omega (arith, least number (inl x), ap (λ (w : Verdict). (checked_numbers w).number) e))
          go (refused f) e = g f e (subst BeforeTotals (ap (λ (w : Verdict). (checked_numbers w).number) e) x)

      early : (BeforeTotals number → ⊥) → (f : Fault) → v ≡ refused f → BeforeTotals f.number → ⊥
      early n f e x = n (subst BeforeTotals (sym (ap (λ (w : Verdict). (checked_numbers w).number) e)) x)

  pub answers : number ≡ 0 → (m : Message document) → message declaration m ≡ s → checked_numbers v ≡ checked_numbers (accepted (totals_of (batches_of (said_by m))))
  answers z m e =
      let d = exactly.0 z in
      let n : Message document = d.0 in
      let p : Accepted n = d.1.1.0 in
      ap checked_numbers (demand_2_accepts s slips rows v a b h n (subst (λ (u : Bytes). Belongs u n) d.1.0 p.belongs) p.agree d.1.1.1)
      ∙ ap (λ (ts : List Told). checked_numbers (accepted (totals_of (batches_of ts)))) (same-said n m s d.1.0 e)

  pub absent : number ≡ 0 → (m : Message document) → message declaration m ≡ s → RowsTell (batches_of (said_by m)) b
  unfolding put_at
  absent z m e =
      let t = accepts z in
      let q = read t.0 t.1 in
      let same : said_by q.read ≡ said_by m = same-said q.read m s q.bytes e in
      let put : b ≡ put_at rows 0 (rows_of (said_by m)) =
      q.rows_are ∙ ap (λ (w : Verdict). table_after w rows (rows_of (said_by q.read))) t.1 ∙ ap (λ (ts : List Told). put_at rows 0 (rows_of ts)) same
      in
      subst (λ (l : List ℕ). RowsTell (batches_of (said_by m)) l) (sym put) (rows_tell 0 (batches_of (said_by m)) (drop (0 + length (rows_of (said_by m))) rows))

  -- a number that is not 0, and its place, are those of a refusal
  told_at : (n p : ℕ) → 1 ≤ n → ((number ≡ n) × ((checked_numbers v).place ≡ p)) ↔ At s slips rows v a b h n p
  told_at n p l = (to v refl, from)
    where
      to : (w : Verdict) → v ≡ w → (number ≡ n) × ((checked_numbers v).place ≡ p) → At s slips rows v a b h n p
      to (accepted t) e x = absurd (omega (arith, ap (λ (w : Verdict). (checked_numbers w).number) e, x.0))
      to (refused g) e x = (g, (e, (sym (ap (λ (w : Verdict). (checked_numbers w).number) e) ∙ x.0, sym (ap (λ (w : Verdict). (checked_numbers w).place) e) ∙ x.1)))

      from : At s slips rows v a b h n p → (number ≡ n) × ((checked_numbers v).place ≡ p)
      from (g, (e, (m, d))) = (ap (λ (w : Verdict). (checked_numbers w).number) e ∙ m, ap (λ (w : Verdict). (checked_numbers w).place) e ∙ d)

  pub texts : (f : Flaw) (p : ℕ) → ((number ≡ flaw_number f) × ((checked_numbers v).place ≡ p)) ↔ ((m : Message document) × TextBreaks s m f p)
  texts f p = through (told_at (flaw_number f) p (omega (arith, flaw-number f))) (text-refused s slips rows v a b h f p)

  pub addresses : (p : ℕ) → ((number ≡ 59) × ((checked_numbers v).place ≡ p)) ↔ ((m : Message document) × AddressBreaks s m p)
  addresses p = through (told_at 59 p (omega arith)) (address-refused s slips rows v a b h p)
