-- WHERE A STAGE STOPS THE CHECK: a message is refused with a number that is neither 1 nor 2 exactly where it is short enough and of the form, and its stages stop there.
--   texts_on              what the stages from the texts on find
--   past-limits, within-limits   they decide exactly where 3 and 4 find nothing
--   Stops n p            the first fault that the stages find has this number and this place
--   At, Stopped          the verdict has them; a message that has these bytes stops so
--   stage_refused        THE THEOREM
use Prim.Native.Nat.{ℕ, ◌≤◌, ◌<◌}
use native.Mathlib.Omega.{arith}
use mathlib.Core.List.{List}
use mathlib.Core.Logic.{inl, inr, ◌↔◌}
use mathlib.Core.Option.{Option, some}
use mathlib.Core.Path.{◌≡◌, refl, ap, sym, ◌∙◌}
use lib.ListN.{length}
use Rattle.laws.specs.Bytes.{Bytes}
use Rattle.profile.specs.Limits.{most_bytes, most_batches, most_transactions}
use Rattle.profile.specs.Refusals.{Fault, fault}
use Rattle.tree.specs.Form.{Message, message}
use Rattle.tree.specs.Pain008.{document, declaration}
use Rattle.tree.specs.Parts as part
use Rattle.message.specs.declared.Told.{Told}
use Rattle.message.specs.Message.{all_of}
use Rattle.message.specs.Verdict.{Room, Verdict, Verdict.refused, at, first, or_else, first_broken, stages}
use Rattle.promise.specs.Check.{said_by, room_of, Checks}
use Rattle.promise.proofs.Accepts.{after-within, within-after, at_none, at_is_none}
use Rattle.promise.proofs.Outcome.{same-said}
use Rattle.promise.proofs.Numbers.{at_among, passed, three, four, mixes, rest, Way, found, found-refused}

module _ (r : Room) (ts : List Told) where
  abbrev pub texts_on : Option Fault
  texts_on = or_else (first_broken ts) (or_else (mixes r ts) (rest r ts))

  pub past-limits : (f : Fault) → 4 < f.number → first (stages r ts) ≡ some f
      → (length (all_of part.batch ts) ≤ most_batches) × ((length (all_of part.transaction ts) ≤ most_transactions) × (texts_on ≡ some f))
  past-limits f l e =
      let x = passed (λ k. k ≡ 3) (at 3 (three r ts)) (or_else (at 4 (four r ts)) texts_on) f (at_among (λ k. k ≡ 3) 3 (three r ts) refl) e (λ z. omega arith) in
      let y = passed (λ k. k ≡ 4) (at 4 (four r ts)) texts_on f (at_among (λ k. k ≡ 4) 4 (four r ts) refl) x.1 (λ z. omega arith) in
      (after-within most_batches (all_of part.batch ts) (at_none 3 (three r ts) x.0), (after-within most_transactions (all_of part.transaction ts) (at_none 4 (four r ts) y.0), y.1))

  pub within-limits : length (all_of part.batch ts) ≤ most_batches → length (all_of part.transaction ts) ≤ most_transactions → first (stages r ts) ≡ texts_on
  within-limits h k =
      rw (at_is_none 3 (three r ts) (within-after most_batches (all_of part.batch ts) h), at_is_none 4 (four r ts) (within-after most_transactions (all_of part.transaction ts) k)) refl

  module _ (n p : ℕ) where
    abbrev pub Stops : Type 0
    Stops = (x : Fault) × ((first (stages r ts) ≡ some x) × ((x.number ≡ n) × (x.place ≡ p)))

module _ (s : Bytes) (slips rows : List ℕ) (v : Verdict) (a b : List ℕ) (c : Checks s slips rows v a b) (n p : ℕ) where
  abbrev pub At : Type 0
  At = (x : Fault) × ((v ≡ refused x) × ((x.number ≡ n) × (x.place ≡ p)))

  pub record Stopped (m : Message document) : Type 0 where
    pub short : length s ≤ most_bytes
    pub bytes : message declaration m ≡ s
    pub stops : Stops (room_of slips rows) (said_by m) n p

  pub stage_refused : 2 < n → At ↔ ((m : Message document) × Stopped m)
  stage_refused l = (λ x. to c.case x.0 x.1.0 x.1.1, λ x. from c.case x.0 x.1)
    where
      same : (x y : Fault) → v ≡ refused x → v ≡ refused y → x.number ≡ y.number
      same x y d e = let h = sym d ∙ e in let k : x ≡ y = cc in ap (λ (z : Fault). z.number) k

      to : Way s slips rows v a b → (x : Fault) → v ≡ refused x → (x.number ≡ n) × (x.place ≡ p) → (m : Message document) × Stopped m
      to (inl q) x e t = absurd (omega (arith, same (fault 1 most_bytes) x q.answer e, t.0))
      to (inr (inl q)) x e t = absurd (omega (arith, same (fault 2 q.place) x q.answer e, t.0))
      to (inr (inr q)) x e t = (q.read, record { short = q.short; bytes = q.bytes; stops = (x, (found s slips rows v a b c q x e, t)) })

      from : Way s slips rows v a b → (m : Message document) → Stopped m → At
      from (inl q) m t = absurd (omega (arith, q.long, t.short))
      from (inr (inl q)) m t = absurd (q.not_of_form.0 (m, t.bytes))
      from (inr (inr q)) m t =
          let x = t.stops in
          let e : said_by q.read ≡ said_by m = same-said q.read m s q.bytes t.bytes in
          (x.0, (q.answer ∙ found-refused _ _ x.0 (ap (λ (us : List Told). first (stages (room_of slips rows) us)) e ∙ x.1.0), x.1.1))
