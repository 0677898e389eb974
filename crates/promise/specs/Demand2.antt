-- DEMAND 2, as definitions: what belongs to the profile, and that every declared count and sum equals the exact one. To be believed.
--   Agrees d n      a declaration is absent, or states the number n
--   AllAgree ts     every declared count and sum, per batch and overall, is the exact one
--   InProfile ts    what the message says meets none of 3, 4 and 51 to 59
--   Enough r ts     the tables are long enough
--   Belongs s m     the message s, read as m, belongs to the profile: it meets no refusal that stands before 6
use Rattle.std.specs.Prelude.{ℕ, ◌*◌, ◌≤◌, List, ◌≡◌, T, length}
use Rattle.std.proofs.Math.Option.{Option, none, some}
use Rattle.laws.specs.Bytes.{Bytes}
use Rattle.laws.specs.Lists.{total, All}
use Rattle.profile.specs.Limits.{most_bytes, most_batches, most_transactions}
use Rattle.text.specs.Rules.{good}
use Rattle.tree.specs.Form.{Message, message}
use Rattle.tree.specs.Pain008.{document, declaration}
use Rattle.tree.specs.Parts as part
use Rattle.message.specs.declared.Told.{Told}
use Rattle.message.specs.Message.{all_of, the, batches_of, worth, exact_count, exact_sum}
use Rattle.message.specs.Addresses.{parties_of, good_address}
use Rattle.message.specs.Verdict.{Room}
use Rattle.promise.specs.Check.{said_by}

abbrev pub Agrees : Option Told → ℕ → Type 0
Agrees none n = Unit {0}
Agrees (some t) n = worth t ≡ n

pub record AllAgree (ts : List Told) : Type 0 where
  pub batches : All (λ b. Agrees b.declared_count (exact_count b) × Agrees b.declared_sum (exact_sum b)) (batches_of ts)
  pub message_count : Agrees (the part.message_count ts) (total exact_count (batches_of ts))
  pub message_sum : Agrees (the part.message_sum ts) (total exact_sum (batches_of ts))

pub record InProfile (ts : List Told) : Type 0 where
  pub batches : length (all_of part.batch ts) ≤ most_batches
  pub transactions : length (all_of part.transaction ts) ≤ most_transactions
  pub texts : All (λ t. T (good t.judged)) ts
  pub addresses : All (λ x. T (good_address x)) (parties_of ts)

pub record Enough (r : Room) (ts : List Told) : Type 0 where
  pub slips : 12 * total exact_count (batches_of ts) ≤ r.slips
  pub rows : 8 * length (batches_of ts) ≤ r.rows

pub record Belongs (s : Bytes) (m : Message document) : Type 0 where
  pub short : length s ≤ most_bytes
  pub bytes : message declaration m ≡ s
  pub profile : InProfile (said_by m)
