-- WHAT WAS HEARD, READ FROM THE STRUCT that is lent from event to event. Not to be believed: no promise to a caller speaks of it.
--   Row, row_of h       what it says
--   place_in, bad_in, noted_in, mixes_in   the same of its fields
--   state_of h y s r    with the tally y and the tables s and r
--   with_said, without_from, with_bad, with_batch_counted, with_transaction_counted, with_fault, with_mixes, with_address   what each of the stores does
use Rattle.std.specs.Prelude.{ℕ, List, eqb, ltb, get_or, Option as Maybe, None, Some}
use Rattle.std.proofs.Math.Option.{Option, none, some}
use Rattle.profile.specs.Refusals.{Fault, fault, flaw_number}
use Rattle.profile.specs.declared.Flaw.{Flaw}
use Rattle.profile.specs.declared.Tally.{Tally}
use Rattle.message.specs.Verdict.{or_else}
use Rattle.heard.specs.declared.Limit.{Limit}
use Rattle.heard.specs.declared.Fault.{Fault as NumberedPlace}
use Rattle.heard.specs.declared.AddressMixes.{AddressMixes}
use Rattle.heard.specs.declared.Heard.{Heard}
use Rattle.heard.specs.declared.Word.{Word}
use Rattle.heard.specs.State.{if_true, nothing, fewer, Mixes, State}

-- ─── what the fields say ───

abbrev pub place_in : Maybe ℕ → Option ℕ
place_in None = none
place_in (Some p) = some p

abbrev pub bad_in : Maybe (Flaw × ℕ) → Option Fault
bad_in None = none
bad_in (Some x) = some (fault (flaw_number x.0) x.1)

abbrev pub noted_in : Maybe NumberedPlace → Option Fault
noted_in None = none
noted_in (Some x) = some (fault x.number x.place)

abbrev pub mixes_in : AddressMixes → Mixes
mixes_in m = record { found = noted_in m.found; address = place_in m.address; early = noted_in m.early; late = noted_in m.late }

pub record Row : Type 0 where
  pub said : ℕ → Word
  pub bad : Option Fault
  pub batches : Limit
  pub transactions : Limit
  pub fault : Option Fault
  pub mixes : Mixes

unfoldable pub row_of : Heard → Row
row_of h = record {
  said = λ p. get_or h.said p nothing;
  bad = bad_in h.flaw;
  batches = h.batches;
  transactions = h.transactions;
  fault = noted_in h.fault;
  mixes = mixes_in h.addresses;
}

abbrev pub state_with : Row → Tally → List ℕ → List ℕ → State
state_with w y s r = record {
  said = w.said;
  bad = w.bad;
  batches = w.batches;
  transactions = w.transactions;
  fault = w.fault;
  mixes = w.mixes;
  tally = y;
  slips = s;
  rows = r;
}

abbrev pub state_of : Heard → Tally → List ℕ → List ℕ → State
state_of h y s r = state_with (row_of h) y s r

-- ─── what a store does ───

abbrev pub with_said : Row → ℕ → Word → Row
with_said w q x = record w { said = λ p. if_true (eqb q p) x (w.said p) }

abbrev pub without_from : Row → ℕ → Row
without_from w n = record w { said = λ p. if_true (ltb p n) (w.said p) nothing }

abbrev pub with_bad : Row → Option Fault → Row
with_bad w f = record w { bad = or_else w.bad f }

abbrev pub with_fault : Row → Option Fault → Row
with_fault w f = record w { fault = or_else w.fault f }

abbrev pub with_batch_counted : Row → ℕ → Row
with_batch_counted w p = record w { batches = fewer w.batches.left w.batches.place p }

abbrev pub with_transaction_counted : Row → ℕ → Row
with_transaction_counted w p = record w { transactions = fewer w.transactions.left w.transactions.place p }

abbrev pub with_mixes : Row → Mixes → Row
with_mixes w m = record w { mixes = m }

-- an address begins at the place p
abbrev pub with_address : Row → ℕ → Row
with_address w p = with_mixes w (record w.mixes { address = some p })
