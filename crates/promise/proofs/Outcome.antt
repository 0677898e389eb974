-- ANY TWO OUTCOMES THAT THE PROMISE OF THE CHECK ALLOWS COINCIDE, and a refusal changes nothing.
--   said-once         an answer of the code is known by its verdict
--   one-outcome       two verdicts, and both tables, are the same
--   refusal-keeps     a refusal leaves both tables as they were
use Prim.Native.Nat.{ℕ}
use native.Mathlib.Omega.{arith}
use mathlib.Core.List.{List}
use mathlib.Core.Path.{◌≡◌, ap, sym, ◌∙◌}
use mathlib.Core.Logic.{◌⊎◌, inl, inr}
use Rattle.std.specs.Prelude.{Err, Ok}
use Rattle.laws.specs.Bytes.{Bytes}
use Rattle.profile.specs.Refusals.{Fault, fault}
use Rattle.profile.proofs.Faults.{fault-once}
use Rattle.tree.specs.declared.Event.{Event}
use Rattle.tree.specs.Form.{Message, message, message_events}
use Rattle.tree.specs.Pain008.{document, declaration}
use Rattle.tree.proofs.Pain008.{unambiguous, place-one}
use Rattle.message.specs.declared.Told.{Told}
use Rattle.message.specs.Message.{tell}
use Rattle.message.specs.Verdict.{Verdict, Verdict.refused, verdict_of, slips_of, rows_of}
use Rattle.answer.specs.Said.{Checked, said}
use Rattle.promise.specs.Check.{said_by, room_of, table_after, Long, OutOfForm, ByStages, Checks}

-- two messages of the same bytes say the same
pub same-said : (m n : Message document) (s : Bytes) → message declaration m ≡ s → message declaration n ≡ s → said_by m ≡ said_by n
same-said m n s p q =
    ap (λ (b : Bytes). tell b (message_events declaration m)) (p ∙ sym q) ∙ ap (λ (es : List Event). tell (message declaration n) es) (unambiguous m n (p ∙ sym q))

pub said-once : (r r₂ : Checked) → said r ≡ said r₂ → r ≡ r₂
said-once (Ok t) (Ok u) e = cc
said-once (Ok t) (Err f) e = absurd (let z : ◌≡◌ {A = ℕ} 0 1 = cc in omega arith)
said-once (Err f) (Ok u) e = absurd (let z : ◌≡◌ {A = ℕ} 0 1 = cc in omega arith)
said-once (Err f) (Err g) e = ap Err (fault-once f g (cc))

module _ (s : Bytes) (slips rows : List ℕ) (v v₂ : Verdict) (a b a₂ b₂ : List ℕ) where
  -- the verdicts and both tables are the same
  pub record Same : Type 0 where
    pub answer : v ≡ v₂
    pub slips-same : a ≡ a₂
    pub rows_same : b ≡ b₂

  judged-once : ByStages s slips rows v a b → ByStages s slips rows v₂ a₂ b₂ → Same
  judged-once p q =
      let e : said_by p.read ≡ said_by q.read = same-said p.read q.read s p.bytes q.bytes in
      let u : v ≡ v₂ = p.answer ∙ ap (verdict_of (room_of slips rows)) e ∙ sym q.answer in
      record {
        answer = u;
        slips-same = p.slips_are ∙ ap (λ (w : Verdict). table_after w slips (slips_of (said_by p.read))) u ∙ ap (λ (ts : List Told). table_after v₂ slips (slips_of ts)) e ∙ sym q.slips_are;
        rows_same = p.rows_are ∙ ap (λ (w : Verdict). table_after w rows (rows_of (said_by p.read))) u ∙ ap (λ (ts : List Told). table_after v₂ rows (rows_of ts)) e ∙ sym q.rows_are;
      }

  cases : Long s slips rows v a b ⊎ (OutOfForm s slips rows v a b ⊎ ByStages s slips rows v a b) → Long s slips rows v₂ a₂ b₂ ⊎ (OutOfForm s slips rows v₂ a₂ b₂ ⊎ ByStages s slips rows v₂ a₂ b₂) → Same
  cases (inl p) (inl q) = record { answer = p.answer ∙ sym q.answer; slips-same = p.slips-kept ∙ sym q.slips-kept; rows_same = p.rows-kept ∙ sym q.rows-kept }
  cases (inl p) (inr (inl q)) = absurd (omega (arith, p.long, q.short))
  cases (inl p) (inr (inr q)) = absurd (omega (arith, p.long, q.short))
  cases (inr (inl p)) (inl q) = absurd (omega (arith, q.long, p.short))
  cases (inr (inl p)) (inr (inl q)) = record {
    answer = p.answer ∙ ap (λ (n : ℕ). refused (fault 2 n)) (place-one s p.place q.place p.not_of_form.1 q.not_of_form.1) ∙ sym q.answer;
    slips-same = p.slips-kept ∙ sym q.slips-kept;
    rows_same = p.rows-kept ∙ sym q.rows-kept;
  }
  cases (inr (inl p)) (inr (inr q)) = absurd (p.not_of_form.0 (q.read, q.bytes))
  cases (inr (inr p)) (inl q) = absurd (omega (arith, q.long, p.short))
  cases (inr (inr p)) (inr (inl q)) = absurd (q.not_of_form.0 (p.read, p.bytes))
  cases (inr (inr p)) (inr (inr q)) = judged-once p q

  pub one-outcome : Checks s slips rows v a b → Checks s slips rows v₂ a₂ b₂ → Same
  one-outcome p q = cases p.case q.case

module _ (s : Bytes) (slips rows : List ℕ) (f : Fault) (a b : List ℕ) where
  kept : Long s slips rows (refused f) a b ⊎ (OutOfForm s slips rows (refused f) a b ⊎ ByStages s slips rows (refused f) a b) → (a ≡ slips) × (b ≡ rows)
  kept (inl p) = (p.slips-kept, p.rows-kept)
  kept (inr (inl p)) = (p.slips-kept, p.rows-kept)
  kept (inr (inr p)) = (p.slips_are, p.rows_are)

  pub refusal-keeps : Checks s slips rows (refused f) a b → (a ≡ slips) × (b ≡ rows)
  refusal-keeps p = kept p.case
