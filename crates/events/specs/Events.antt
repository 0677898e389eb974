-- WHAT AN EVENT DOES TO WHAT WAS HEARD AND TO THE TABLES, part by part. Not to be believed.
--   ended_rows w y rows, ended_row w y   the rows, and what was heard, where the open batch ends
--   told_row w p a n j                  what was heard where a text of the part p, from a on and n bytes long, is judged j
--   held_at p place a n                 what an element says that holds elements
--   Plain p                            a part that begins neither a batch nor a transaction nor an address
--   Finished st w y s r                what is left after the last event
use Rattle.std.specs.Prelude.{ℕ, ◌-◌, ◌*◌, ◌<◌, List, ◌≡◌, Ok}
use Rattle.profile.specs.Totals.{totals}
use Rattle.profile.specs.declared.Tally.{Tally}
use Rattle.profile.specs.declared.Totals.{Totals}
use Rattle.text.specs.Rules.{Judged}
use Rattle.text.specs.Rules as rules
use Rattle.tree.specs.Parts as part
use Rattle.message.specs.declared.Told.{Told}
use Rattle.message.specs.Verdict.{broken}
use Rattle.heard.specs.State.{if_any, fault_from, ended_mixes, put_if_room, row_numbers, State, shut}
use Rattle.heard.specs.Row.{Row, with_said, with_bad, with_fault, with_mixes}
use Rattle.tree.specs.Parts.{parts_end}

abbrev pub ended_rows : Row → Tally → List ℕ → List ℕ
ended_rows w y rows = if_any y.batches (put_if_room rows (8 * (y.batches - 1)) 8 (row_numbers w.said y)) rows

abbrev pub ended_row : Row → Tally → Row
ended_row w y = if_any y.batches (with_mixes (with_fault w (fault_from w.said y)) (ended_mixes (w.said part.collection_date).worth w.mixes)) w

abbrev pub told_row : Row → ℕ → ℕ → ℕ → Judged → Row
told_row w p a n j = with_bad (with_said w p (record { mark = 1; start = a; length = n; worth = rules.number_told j })) (broken j a)

-- an element of the part p that holds elements begins: white space is judged good
abbrev pub held_at : ℕ → ℕ → ℕ → ℕ → Told
held_at p place a n = record { part = p; place = place; start = a; length = n; judged = Ok 0 }

pub record Plain (p : ℕ) : Type 0 where
  pub small : p < parts_end
  pub batch : p ≡ part.batch → ⊥
  pub transaction : p ≡ part.transaction → ⊥
  pub address : p ≡ part.address → ⊥

pub record Finished (st : State) (w : Row) (y : Totals) (s r : List ℕ) : Type 0 where
  pub said : w.said ≡ (shut st).said
  pub bad : w.bad ≡ (shut st).bad
  pub batches : w.batches ≡ (shut st).batches
  pub transactions : w.transactions ≡ (shut st).transactions
  pub fault : w.fault ≡ (shut st).fault
  pub mixes : w.mixes ≡ (shut st).mixes
  pub totals : y ≡ totals (shut st).tally
  pub slips : s ≡ (shut st).slips
  pub rows : r ≡ (shut st).rows
