-- DEMAND 2, of every outcome that the promise of the check allows: with tables long enough a message is accepted exactly when it belongs to the profile and every count
-- and control sum that it declares equals the exact count and cents of its transactions, per batch and overall.
--   demand_2_accepts     it belongs, all agree, the tables are long enough: it is accepted, with the exact totals
--   demand_2_only        it is accepted: it belongs, all agree, and the tables were long enough
use Prim.Native.Nat.{ℕ}
use native.Mathlib.Omega.{arith}
use mathlib.Core.List.{List}
use mathlib.Core.Path.{◌≡◌, ap, sym, ◌∙◌}
use mathlib.Core.Logic.{◌⊎◌, inl, inr}
use Rattle.laws.specs.Bytes.{Bytes}
use Rattle.profile.specs.declared.Totals.{Totals}
use Rattle.tree.specs.Form.{Message}
use Rattle.tree.specs.Pain008.{document}
use Rattle.message.specs.Message.{batches_of}
use Rattle.message.specs.Verdict.{Verdict, Verdict.accepted, totals_of, verdict_of}
use Rattle.promise.specs.Check.{said_by, room_of, Long, OutOfForm, ByStages, Checks}
use Rattle.promise.specs.Demand2.{AllAgree, Enough, Belongs}
use Rattle.promise.proofs.Accepts.{accepts, accepted-only}
use Rattle.promise.proofs.Outcome.{same-said}

module _ (s : Bytes) (slips rows : List ℕ) (v : Verdict) (a b : List ℕ) where
  pub demand_2_accepts : Checks s slips rows v a b → (m : Message document) → Belongs s m → AllAgree (said_by m) → Enough (room_of slips rows) (said_by m)
      → v ≡ accepted (totals_of (batches_of (said_by m)))
  demand_2_accepts c m p h e = go c.case
    where
      go : Long s slips rows v a b ⊎ (OutOfForm s slips rows v a b ⊎ ByStages s slips rows v a b) → v ≡ accepted (totals_of (batches_of (said_by m)))
      go (inl q) = absurd (omega (arith, q.long, p.short))
      go (inr (inl q)) = absurd (q.not_of_form.0 (m, p.bytes))
      go (inr (inr q)) =
          q.answer ∙ ap (verdict_of (room_of slips rows)) (same-said q.read m s q.bytes p.bytes) ∙ accepts (room_of slips rows) (said_by m) e p.profile h

  pub demand_2_only : Checks s slips rows v a b → (t : Totals) → v ≡ accepted t → (m : Message document) × (Belongs s m × (AllAgree (said_by m) × Enough (room_of slips rows) (said_by m)))
  demand_2_only c t e = go c.case
    where
      go : Long s slips rows v a b ⊎ (OutOfForm s slips rows v a b ⊎ ByStages s slips rows v a b)
          → (m : Message document) × (Belongs s m × (AllAgree (said_by m) × Enough (room_of slips rows) (said_by m)))
      go (inl q) = absurd (let z : ◌≡◌ {A = ℕ} 0 1 = cc in omega arith)
      go (inr (inl q)) = absurd (let z : ◌≡◌ {A = ℕ} 0 1 = cc in omega arith)
      go (inr (inr q)) =
          let h = accepted-only (room_of slips rows) (said_by q.read) t (sym q.answer ∙ e) in
          (q.read, (record { short = q.short; bytes = q.bytes; profile = h.0 }, h.1))
