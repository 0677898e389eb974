-- WHAT A MESSAGE SAYS, from the events of its tree. To be believed; definitions only.
--   text_of s e, judged_as k x   the text of the event e in the message s; a text judged by the kind of its element
--   told s e, tell s es        an event, and all events, with what their texts are judged
--   worth t                    the number that a text states; 0 where it states none or breaks its rule
--   is, before, parts, all_of, last_or, the   the elements of a part, as Sections says
--   Transaction, Batch         what is said of each; transaction_of, batch_of: from the events of its part
--   batches_of ts               the batches of a message, in order
--   exact_count b, exact_sum b   a batch's number of transactions, and their cents
use Rattle.std.specs.Prelude.{ℕ, Bool, List, map, length, take, drop, Ok}
use Rattle.std.proofs.Math.Option.{Option, none, some}
use Rattle.laws.specs.Bytes.{Bytes}
use Rattle.laws.specs.Lists.{total}
use Rattle.laws.specs.Sections as sections
use Rattle.text.specs.Rules.{Judged}
use Rattle.text.specs.Rules as rules
use Rattle.tree.specs.declared.Kind.{Kind}
use Rattle.tree.specs.declared.Kind.TheVariants.{Holds, Text}
use Rattle.tree.specs.declared.Event.{Event}
use Rattle.tree.specs.Parts as part
use Rattle.message.specs.declared.Told.{Told}

-- ─── 1. Events with what their texts are judged ───

abbrev pub text_of : Bytes → Event → Bytes
text_of s e = take e.length (drop e.start s)

abbrev pub judged_as : Kind → Bytes → Judged
judged_as Holds x = Ok 0
judged_as (Text r) x = rules.judged r x

abbrev pub told : Bytes → Event → Told
told s e = record { part = e.part; place = e.place; start = e.start; length = e.length; judged = judged_as e.kind (text_of s e) }

abbrev pub tell : Bytes → List Event → List Told
tell s es = map (told s) es

-- no stage that looks at a text's number is reached where a text breaks its rule
abbrev pub worth : Told → ℕ
worth t = rules.number_told t.judged

-- ─── 2. Finding elements among the events ───

abbrev pub is : ℕ → Told → Bool
is = sections.is (λ t. t.part)

abbrev pub before : ℕ → List Told → List Told
before = sections.before (λ t. t.part)

abbrev pub parts : ℕ → List Told → List (List Told)
parts = sections.parts (λ t. t.part)

abbrev pub all_of : ℕ → List Told → List Told
all_of = sections.all_of (λ t. t.part)

abbrev pub last_or : Option Told → List Told → Option Told
last_or = sections.last_or

-- no tree of the profile has several at the places asked for, but for the details and the lines of an address: of those it is only asked whether there are any
abbrev pub the : ℕ → List Told → Option Told
the = sections.the (λ t. t.part)

-- ─── 3. Transactions and batches ───

pub record Transaction : Type 0 where
  pub amount : Option Told
  pub end_to_end : Option Told
  pub mandate : Option Told
  pub debtor_name : Option Told
  pub debtor_account : Option Told
  pub remittance : Option Told

pub record Batch : Type 0 where
  pub declared_count : Option Told
  pub declared_sum : Option Told
  pub scheme : Option Told
  pub sequence : Option Told
  pub transactions : List Transaction

abbrev pub transaction_of : List Told → Transaction
transaction_of p = record {
  amount = the part.amount p;
  end_to_end = the part.end_to_end p;
  mandate = the part.mandate p;
  debtor_name = the part.debtor_name p;
  debtor_account = the part.debtor_account p;
  remittance = the part.remittance p;
}

abbrev pub batch_of : List Told → Batch
batch_of p = record {
  declared_count = the part.batch_count p;
  declared_sum = the part.batch_sum p;
  scheme = the part.scheme p;
  sequence = the part.sequence p;
  transactions = map transaction_of (parts part.transaction p);
}

abbrev pub batches_of : List Told → List Batch
batches_of ts = map batch_of (parts part.batch ts)

-- ─── 4. Totals ───

-- what a text states; 0 where there is none
abbrev pub worth_of : Option Told → ℕ
worth_of none = 0
worth_of (some t) = worth t

abbrev pub cents_of : Transaction → ℕ
cents_of x = worth_of x.amount

abbrev pub exact_count : Batch → ℕ
exact_count b = length b.transactions

abbrev pub exact_sum : Batch → ℕ
exact_sum b = total cents_of b.transactions
