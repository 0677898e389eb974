-- THE NUMBERS STAY SMALL: at the start of an event's text no count is above it, where none was above the event's place.
--   within-fresh, within_more   nothing was heard; a later place
--   settled-small       the open transaction added: one more at most
--   within_step         THE LAW
use Prim.Native.Nat.{ℕ, zero, suc, ◌+◌, ◌*◌, ◌≤◌, ◌<◌}
use native.Mathlib.Omega.{arith}
use mathlib.Core.Bool.{Bool, true, false}
use mathlib.Core.List.{List}
use mathlib.Core.Path.{◌≡◌, refl}
use borrow.Author.Tests.{eqb-true}
use Rattle.profile.specs.Limits.{most_cents}
use Rattle.profile.specs.Totals.{with_transaction}
use Rattle.profile.specs.declared.Tally.{Tally}
use Rattle.tree.specs.Parts as part
use Rattle.message.specs.declared.Told.{Told}
use Rattle.message.specs.Message.{is, worth}
use Rattle.heard.specs.declared.Word.{Word}
use Rattle.heard.specs.State.{if_true, if_any, word, State, fresh, settled_tally, added, began, saying, step}
use Rattle.heard.specs.Bounds.{Within, Sane}
use Rattle.heard.proofs.Fold.{by_bool}

pub within-fresh : (slips rows : List ℕ) → Within 0 (fresh slips rows)
within-fresh slips rows = record { batches = omega arith; transactions = omega arith; cents = omega arith; amount = omega arith; scheme = omega arith; sequence = omega arith }

pub within_more : {p q : ℕ} {st : State} → Within p st → p ≤ q → Within q st
within_more w h = record { batches = omega arith; transactions = omega arith; cents = omega arith; amount = w.amount; scheme = w.scheme; sequence = w.sequence }

-- the open transaction added: one more at most
pub record Small (p : ℕ) (y : Tally) : Type 0 where
  pub batches : y.batches ≤ p
  pub transactions : y.transactions.0 + y.count.0 ≤ suc p
  pub cents : y.cents.0 + y.sum.0 ≤ most_cents * suc p

pub settled-small : (p : ℕ) (st : State) → Within p st → Small p (settled_tally st)
settled-small p st w = go st.tally.batches (st.said part.transaction).mark
  where
    plain : Small p st.tally
    plain = record { batches = w.batches; transactions = omega arith; cents = omega arith }

    go : (k m : ℕ) → Small p (if_any k (if_any m (with_transaction st.tally (record { 0 = (st.said part.amount).worth })) st.tally) st.tally)
    go zero m = plain
    go (suc k) zero = plain
    go (suc k) (suc m) = record { batches = w.batches; transactions = omega arith; cents = omega arith }

-- what an event says
module _ (q : ℕ) (t : Told) (s : Sane t) where
  -- a number that is stated, or stays
  told-small : (n m : ℕ) (w : Word) → (t.part ≡ n → worth t ≤ m) → w.worth ≤ m → (if_true (is n t) (word t) w).worth ≤ m
  told-small n m w f g = go (is n t) refl
    where
      go : (z : Bool) → is n t ≡ z → (if_true z (word t) w).worth ≤ m
      go true e = f (eqb-true t.part n e)
      go false e = g

  saying-small : (st : State) → Within q st → Within q (saying st t)
  saying-small st w = record {
    batches = w.batches;
    transactions = w.transactions;
    cents = w.cents;
    amount = told-small part.amount most_cents (st.said part.amount) s.amount w.amount;
    scheme = told-small part.scheme 3 (st.said part.scheme) s.scheme w.scheme;
    sequence = told-small part.sequence 3 (st.said part.sequence) s.sequence w.sequence;
  }

module _ (p q : ℕ) (st : State) (t : Told) (w : Within p st) (h : p < q) (s : Sane t) where
  y : Small p (settled_tally st)
  y = settled-small p st w

  batch-small : Within q (began st)
  batch-small = record { batches = omega (arith, y.batches); transactions = omega (arith, y.transactions); cents = omega (arith, y.cents); amount = omega arith; scheme = omega arith; sequence = omega arith }

  transaction-small : Within q (added st)
  transaction-small = record { batches = omega (arith, y.batches); transactions = omega (arith, y.transactions); cents = omega (arith, y.cents); amount = omega arith; scheme = w.scheme; sequence = w.sequence }

  -- no transaction is open where a batch begins
  both_small : Within q (added (began st))
  both_small = record { batches = batch-small.batches; transactions = batch-small.transactions; cents = batch-small.cents; amount = omega arith; scheme = omega arith; sequence = omega arith }

  pub within_step : Within q (step st t)
  unfolding step
  within_step =
      saying-small q t s _
      (by_bool (λ z. Within q (if_true (is part.transaction t) (added (if_true z (began st) st)) (if_true z (began st) st))) (is part.batch t)
      (by_bool (λ z. Within q (if_true z (added (began st)) (began st))) (is part.transaction t) both_small batch-small)
      (by_bool (λ z. Within q (if_true z (added st) st)) (is part.transaction t) transaction-small (within_more w (omega arith))))
