-- THE NUMBER OF A REFUSAL is one of the check's; and a message belongs to the profile exactly where it meets no refusal that stands before 6.
--   Among N o            a fault that was found has one of the numbers N
--   passed               a fault that is not of a stage comes from the stages after it
--   three, four, mixes, rest   the stages 3, 4 and 59, and those from 6 on; mixes_among, rest_among: their numbers
--   found                what a refused message's stages find
--   Way                  the three ways in which a check ends
--   refusal-number       the number of a refusal is one of the check's
--   belongs-exactly      a message belongs to the profile exactly where no refusal of it has a number that stands before 6
use Prim.Native.Nat.{ℕ, ◌*◌}
use native.Mathlib.Omega.{arith}
use mathlib.Core.List.{List, [], ◌∷◌, map}
use mathlib.Core.Option.{Option, none, some}
use mathlib.Core.Path.{◌≡◌, refl, sym, subst, ◌∙◌}
use mathlib.Core.Logic.{◌⊎◌, inl, inr, ◌↔◌}
use Rattle.std.specs.Prelude.{Err, Ok}
use Rattle.laws.specs.Bytes.{Bytes}
use lib.Dec.{leb}
use lib.ListN.{length, drop}
use Rattle.laws.specs.Lists.{total, All}
use Rattle.profile.specs.Limits.{most_bytes, most_batches, most_transactions}
use Rattle.profile.specs.Refusals.{Fault, fault, flaw_number}
use Rattle.profile.specs.Numbers.{Between, BeforeTotals, CheckNumber}
use Rattle.profile.specs.declared.Flaw.{Flaw}
use Rattle.profile.proofs.Faults.{flaw-number}
use Rattle.profile.specs.declared.Totals.{Totals}
use Rattle.text.specs.Rules.{Judged}
use Rattle.tree.specs.Form.{Message}
use Rattle.tree.specs.Pain008.{document}
use Rattle.tree.specs.Parts as part
use Rattle.message.specs.declared.Told.{Told}
use Rattle.message.specs.Message.{Batch, all_of, the, batches_of, exact_count, exact_sum}
use Rattle.message.specs.Addresses.{Party, parties_of, mix_of}
use Rattle.message.specs.Verdict.{Room, Verdict, Verdict.refused, verdict, at, first, or_else, unless, place_after, broken, first_broken, place_in, unless_at, mix_fault, differs, batch_fault, stages}
use Rattle.promise.specs.Check.{said_by, room_of, Long, OutOfForm, ByStages, Checks}
use Rattle.promise.specs.Demand2.{InProfile, Belongs}
use Rattle.promise.proofs.Accepts.{Passes, profile-passes, in_profile}
use Rattle.promise.proofs.Outcome.{same-said}

-- ─── 1. The numbers of the stages ───

abbrev pub Among : (ℕ → Type 0) → Option Fault → Type 0
Among N o = (f : Fault) → o ≡ some f → N f.number

module _ (N : ℕ → Type 0) where
  none_among : Among N none
  none_among f e = absurd (let z : ◌≡◌ {A = ℕ} 0 1 = cc in omega arith)

  some_among : (x : Fault) → N x.number → Among N (some x)
  some_among x a f e = let h : x ≡ f = cc in subst (λ (y : Fault). N y.number) h a

  pub at_among : (n : ℕ) (o : Option ℕ) → N n → Among N (at n o)
  at_among n none a = none_among
  at_among n (some p) a = some_among (fault n p) a

  or_among : (a b : Option Fault) → Among N a → Among N b → Among N (or_else a b)
  or_among none b x y = y
  or_among (some a) b x y = x

  first_among : (l : List (Option Fault)) → All (Among N) l → Among N (first l)
  first_among [] h = none_among
  first_among (o ∷ l) h = or_among o (first l) h.0 (first_among l h.1)

  pub broken_among : (ts : List Told) → ((f : Flaw) → N (flaw_number f)) → Among N (first_broken ts)
  broken_among [] a = none_among
  broken_among (t ∷ ts) a = or_among (broken t.judged t.start) (first_broken ts) (go t.judged) (broken_among ts a)
    where
      go : (j : Judged) → Among N (broken j t.start)
      go (Ok n) = none_among
      go (Err f) = some_among (fault (flaw_number f) t.start) (a f)

  pub parties_among : (xs : List Party) → N 59 → Among N (first (map mix_fault xs))
  parties_among [] a = none_among
  parties_among (x ∷ xs) a = or_among (mix_fault x) (first (map mix_fault xs)) (at_among 59 (unless_at (mix_of x) (place_in (the part.address x.said))) a) (parties_among xs a)

  batches_among : (bs : List Batch) → N 6 → N 7 → Among N (first (map batch_fault bs))
  batches_among [] a b = none_among
  batches_among (x ∷ bs) a b =
      let n : Option ℕ = differs x.declared_count (exact_count x) in
      let c : Option ℕ = differs x.declared_sum (exact_sum x) in
      or_among (batch_fault x) (first (map batch_fault bs)) (or_among (at 6 n) (at 7 c) (at_among 6 n a) (at_among 7 c b)) (batches_among bs a b)

-- ─── 2. The stages before 6, and from 6 on ───

-- no fault that was found stands before 6
Late : Option Fault → Type 0
Late o = (f : Fault) → o ≡ some f → BeforeTotals f.number → ⊥

-- where that holds of o and the rest, a stage o whose faults all stand before 6 finds nothing
early : (o rest : Option Fault) → Among BeforeTotals o → Late (or_else o rest) → (o ≡ none) × Late rest
unfolding Late
early none rest x h = (refl, h)
early (some f) rest x h = absurd (h f refl (x f refl))

-- a fault of another number comes from the rest
pub passed : (N : ℕ → Type 0) (o rest : Option Fault) (f : Fault) → Among N o → or_else o rest ≡ some f → (N f.number → ⊥) → (o ≡ none) × (rest ≡ some f)
passed N none rest f x e n = (refl, e)
passed N (some g) rest f x e n = absurd (n (x f e))

module _ (r : Room) (ts : List Told) where
  abbrev pub three : Option ℕ
  three = place_after most_batches (all_of part.batch ts)

  abbrev pub four : Option ℕ
  four = place_after most_transactions (all_of part.transaction ts)

  abbrev pub mixes : Option Fault
  mixes = first (map mix_fault (parties_of ts))

  abbrev pub rest : Option Fault
  rest = first (drop 4 (stages r ts))

  pub rest_among : (N : ℕ → Type 0) → ((n : ℕ) → Between 6 11 n → N n) → Among N rest
  rest_among N h =
      let bs : List Batch = batches_of ts in
      let eight : Option ℕ = differs (the part.message_count ts) (total exact_count bs) in
      let nine : Option ℕ = differs (the part.message_sum ts) (total exact_sum bs) in
      let ten : Option ℕ = unless (leb (12 * total exact_count bs) r.slips) (12 * total exact_count bs) in
      let eleven : Option ℕ = unless (leb (8 * length bs) r.rows) (8 * length bs) in
      first_among N (first (map batch_fault bs) ∷ at 8 eight ∷ at 9 nine ∷ at 10 ten ∷ at 11 eleven ∷ []) (
        batches_among N bs (h 6 (omega arith, omega arith)) (h 7 (omega arith, omega arith)),
        (
          at_among N 8 eight (h 8 (omega arith, omega arith)),
          (
            at_among N 9 nine (h 9 (omega arith, omega arith)),
            (at_among N 10 ten (h 10 (omega arith, omega arith)), (at_among N 11 eleven (h 11 (omega arith, omega arith)), tt)),
          ),
        ),
      )

  -- 3, 4, the texts and 59, whose faults have the numbers N
  module _ (N : ℕ → Type 0) (h : (n : ℕ) → BeforeTotals n → N n) where
    three_among : Among N (at 3 three)
    three_among = at_among N 3 three (h 3 (inl (omega arith, omega arith)))

    four_among : Among N (at 4 four)
    four_among = at_among N 4 four (h 4 (inl (omega arith, omega arith)))

    texts_among : Among N (first_broken ts)
    texts_among = broken_among N ts (λ f. h (flaw_number f) (inr ((flaw-number f).0, omega (arith, flaw-number f))))

    mixes_among : Among N mixes
    mixes_among = parties_among N (parties_of ts) (h 59 (inr (omega arith, omega arith)))

  stages_among : Among CheckNumber (first (stages r ts))
  stages_among =
      or_among CheckNumber (at 3 three) (or_else (at 4 four) (or_else (first_broken ts) (or_else mixes rest))) (three_among CheckNumber (λ n. inl))
      (or_among CheckNumber (at 4 four) (or_else (first_broken ts) (or_else mixes rest)) (four_among CheckNumber (λ n. inl))
      (or_among CheckNumber (first_broken ts) (or_else mixes rest) (texts_among CheckNumber (λ n. inl))
      (or_among CheckNumber mixes rest (mixes_among CheckNumber (λ n. inl)) (rest_among CheckNumber (λ n. inr)))))

  profile-late : InProfile ts → Among (Between 6 11) (first (stages r ts))
  profile-late p = let q = profile-passes ts p in rw (q.batches, q.transactions, q.texts, q.mixes) (rest_among (Between 6 11) (λ n h. h))

  profile-early : Late (first (stages r ts)) → Passes ts
  profile-early h =
      let after : Option Fault = or_else (first_broken ts) (or_else mixes rest) in
      let x : (at 3 three ≡ none) × Late (or_else (at 4 four) after) = early (at 3 three) (or_else (at 4 four) after) (three_among BeforeTotals (λ n h. h)) h in
      let y : (at 4 four ≡ none) × Late after = early (at 4 four) after (four_among BeforeTotals (λ n h. h)) x.1 in
      let z : (first_broken ts ≡ none) × Late (or_else mixes rest) = early (first_broken ts) (or_else mixes rest) (texts_among BeforeTotals (λ n h. h)) y.1 in
      let w : (mixes ≡ none) × Late rest = early mixes rest (mixes_among BeforeTotals (λ n h. h)) z.1 in
      record { batches = x.0; transactions = y.0; texts = z.0; mixes = w.0 }

-- ─── 3. The theorems ───

pub refused-found : (o : Option Fault) (y : Totals) (f : Fault) → verdict o y ≡ refused f → o ≡ some f
refused-found none y f e = absurd (let z : ◌≡◌ {A = ℕ} 0 1 = cc in omega arith)
refused-found (some g) y f e = cc

pub found-refused : (o : Option Fault) (y : Totals) (f : Fault) → o ≡ some f → verdict o y ≡ refused f
found-refused o y f e = rw e refl

-- none of the numbers from 6 on stands before 6
late-number : (n : ℕ) → Between 6 11 n → BeforeTotals n → ⊥
late-number n a (inl b) = omega arith
late-number n a (inr b) = omega arith

-- the three ways in which a check ends
abbrev pub Way : Bytes → List ℕ → List ℕ → Verdict → List ℕ → List ℕ → Type 0
Way s slips rows v a b = Long s slips rows v a b ⊎ (OutOfForm s slips rows v a b ⊎ ByStages s slips rows v a b)

module _ (s : Bytes) (slips rows : List ℕ) (v : Verdict) (a b : List ℕ) (c : Checks s slips rows v a b) where
  abbrev room : Room
  room = room_of slips rows

  pub found : (q : ByStages s slips rows v a b) (f : Fault) → v ≡ refused f → first (stages room (said_by q.read)) ≡ some f
  found q f e = refused-found _ _ f (sym q.answer ∙ e)

  pub refusal-number : (f : Fault) → v ≡ refused f → CheckNumber f.number
  refusal-number f e = go c.case
    where
      go : Way s slips rows v a b → CheckNumber f.number
      go (inl q) = some_among CheckNumber (fault 1 most_bytes) (inl (inl (omega arith, omega arith))) f (let h = sym q.answer ∙ e in cc)
      go (inr (inl q)) = some_among CheckNumber (fault 2 q.place) (inl (inl (omega arith, omega arith))) f (let h = sym q.answer ∙ e in cc)
      go (inr (inr q)) = stages_among room (said_by q.read) f (found q f e)

  pub belongs-exactly : ((m : Message document) × Belongs s m) ↔ ((f : Fault) → v ≡ refused f → BeforeTotals f.number → ⊥)
  unfolding Late
  belongs-exactly = (to c.case, from c.case)
    where
      to : Way s slips rows v a b → (m : Message document) × Belongs s m → (f : Fault) → v ≡ refused f → BeforeTotals f.number → ⊥
      to (inl q) (m, p) f e = absurd (omega (arith, q.long, p.short))
      to (inr (inl q)) (m, p) f e = absurd (q.not_of_form.0 (m, p.bytes))
      to (inr (inr q)) (m, p) f e =
          late-number f.number
          (profile-late room (said_by q.read) (subst (λ (ts : List Told). InProfile ts) (same-said m q.read s p.bytes q.bytes) p.profile) f (found q f e))

      from : Way s slips rows v a b → ((f : Fault) → v ≡ refused f → BeforeTotals f.number → ⊥) → (m : Message document) × Belongs s m
      from (inl q) h = absurd (h _ q.answer (inl (omega arith, omega arith)))
      from (inr (inl q)) h = absurd (h _ q.answer (inl (omega arith, omega arith)))
      from (inr (inr q)) h =
          (q.read, record { short = q.short; bytes = q.bytes; profile = in_profile (said_by q.read) (profile-early room (said_by q.read) (λ f e. h f (q.answer ∙ found-refused _ _ f e))) })
