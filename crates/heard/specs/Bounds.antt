-- WHAT KEEPS THE NUMBERS SMALL: no count is above the place that was reached, and no sum above as many amounts. Not to be believed.
--   Within p st     at the place p
--   Sane t, Fit e   what a text states is small; an element's kind fits its part
use Rattle.std.specs.Prelude.{ℕ, ◌+◌, ◌*◌, ◌≤◌, ◌<◌, ◌≡◌}
use Rattle.profile.specs.Limits.{most_cents}
use Rattle.text.specs.declared.Rule.TheVariants.{Amount, Scheme, Sequence}
use Rattle.tree.specs.declared.Kind.TheVariants.{Holds, Text}
use Rattle.tree.specs.declared.Event.{Event}
use Rattle.tree.specs.Parts as part
use Rattle.message.specs.declared.Told.{Told}
use Rattle.message.specs.Message.{worth}
use Rattle.heard.specs.State.{State}
use Rattle.tree.specs.Parts.{parts_end}

pub record Within (p : ℕ) (st : State) : Type 0 where
  pub batches : st.tally.batches ≤ p
  pub transactions : st.tally.transactions.0 + st.tally.count.0 ≤ p
  pub cents : st.tally.cents.0 + st.tally.sum.0 ≤ most_cents * p
  pub amount : (st.said part.amount).worth ≤ most_cents
  pub scheme : (st.said part.scheme).worth ≤ 3
  pub sequence : (st.said part.sequence).worth ≤ 3

pub record Sane (t : Told) : Type 0 where
  pub amount : t.part ≡ part.amount → worth t ≤ most_cents
  pub scheme : t.part ≡ part.scheme → worth t ≤ 3
  pub sequence : t.part ≡ part.sequence → worth t ≤ 3

-- a batch, a transaction and an address hold elements; an amount, a scheme and a sequence are judged as such
pub record Fit (e : Event) : Type 0 where
  pub small : e.part < parts_end
  pub batch : e.part ≡ part.batch → e.kind ≡ Holds
  pub transaction : e.part ≡ part.transaction → e.kind ≡ Holds
  pub address : e.part ≡ part.address → e.kind ≡ Holds
  pub amount : e.part ≡ part.amount → e.kind ≡ Text Amount
  pub scheme : e.part ≡ part.scheme → e.kind ≡ Text Scheme
  pub sequence : e.part ≡ part.sequence → e.kind ≡ Text Sequence
