-- WHERE THE MIX OF AN ADDRESS IS BAD, in the words of request 3, which numbers it 59. To be believed; definitions only.
--   BadMixAt xs p         the first of the parties xs whose address is bad has it at p, "at the `<` of PstlAdr"
--   AddressBreaks s m p   the message s, read as m, meets no refusal before that, all its texts being good, and its first bad address stands at p
use Rattle.std.specs.Prelude.{ℕ, ◌≤◌, List, ◌≡◌, T, length}
use Rattle.std.proofs.Math.Option.{some}
use Rattle.laws.specs.Bytes.{Bytes}
use Rattle.laws.specs.Lists.{All, FirstNot}
use Rattle.profile.specs.Limits.{most_bytes, most_batches, most_transactions}
use Rattle.text.specs.Rules.{good}
use Rattle.tree.specs.Form.{Message, message}
use Rattle.tree.specs.Pain008.{document, declaration}
use Rattle.tree.specs.Parts as part
use Rattle.message.specs.declared.Told.{Told}
use Rattle.message.specs.Message.{all_of, the}
use Rattle.message.specs.Addresses.{Party, parties_of, good_address}
use Rattle.promise.specs.Check.{said_by}

pub record BadMixAt (xs : List Party) (p : ℕ) : Type 0 where
  pub party : Party
  pub first : FirstNot (λ x. T (good_address x)) xs party
  pub address : Told
  pub found : the part.address party.said ≡ some address
  pub place : address.place ≡ p

pub record AddressBreaks (s : Bytes) (m : Message document) (p : ℕ) : Type 0 where
  pub short : length s ≤ most_bytes
  pub bytes : message declaration m ≡ s
  pub batches : length (all_of part.batch (said_by m)) ≤ most_batches
  pub transactions : length (all_of part.transaction (said_by m)) ≤ most_transactions
  pub texts : All (λ t. T (good t.judged)) (said_by m)
  pub breaks : BadMixAt (parties_of (said_by m)) p
