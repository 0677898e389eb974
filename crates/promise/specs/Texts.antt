-- WHERE A TEXT BREAKS ITS RULE, in the words of document 01, which numbers it 5, and of request 1. To be believed; definitions only.
--   BreaksAt ts f p      "a text breaks its rule", at the "start of the first such text", by the flaw f
--   TextBreaks s m f p   the message s, read as m, meets no refusal before that, and a text of it breaks its rule at p, by the flaw f
use Rattle.std.specs.Prelude.{ℕ, ◌≤◌, List, ◌≡◌, T, length, Err}
use Rattle.laws.specs.Bytes.{Bytes}
use Rattle.laws.specs.Lists.{FirstNot}
use Rattle.profile.specs.Limits.{most_bytes, most_batches, most_transactions}
use Rattle.profile.specs.declared.Flaw.{Flaw}
use Rattle.text.specs.Rules.{good}
use Rattle.tree.specs.Form.{Message, message}
use Rattle.tree.specs.Pain008.{document, declaration}
use Rattle.tree.specs.Parts as part
use Rattle.message.specs.declared.Told.{Told}
use Rattle.message.specs.Message.{all_of}
use Rattle.promise.specs.Check.{said_by}

-- f is the flaw of the first test that the text fails
pub record BreaksAt (ts : List Told) (f : Flaw) (p : ℕ) : Type 0 where
  pub text : Told
  pub first : FirstNot (λ t. T (good t.judged)) ts text
  pub flaw : text.judged ≡ Err f
  pub start : text.start ≡ p

pub record TextBreaks (s : Bytes) (m : Message document) (f : Flaw) (p : ℕ) : Type 0 where
  pub short : length s ≤ most_bytes
  pub bytes : message declaration m ≡ s
  pub batches : length (all_of part.batch (said_by m)) ≤ most_batches
  pub transactions : length (all_of part.transaction (said_by m)) ≤ most_transactions
  pub breaks : BreaksAt (said_by m) f p
