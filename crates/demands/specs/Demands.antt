-- THE CUSTOMER'S THREE DEMANDS, AND REQUESTS 1 AND 3, in the customer's order and words: each sentence a claim about what the operations answer and leave behind.
-- To be believed: that this is what was demanded. That it holds is proofs/Hold.
-- An operation is given x: its input x.0, and the lent buffers at entry (x.1). Its outcome is y: its answer y.0, and the buffers at exit (y.1).
--   Tables, Job                          the two tables that a check is lent; the list and the ceiling that a writer is given
--   Check, DeskCheck, Write, DeskWrite   y is an outcome that the promise of `check`, `desk_check`, `write`, `desk_write` allows for x
--   check_told, write_told                 the answers of `check` and `write` in numbers
--   Demand1, Demand2, Demand3            the demands, of an operation whose answers `told` gives in numbers
--   TextsRefused, ValuesRefused          request 1: what is wrong with a text, and with a value of a list
--   AddressesRefused                     request 3: the mix of an address
--   Tells, RowTells, RowsTell            what a row says of a declaration, and of a batch; the rows of all batches
--   LongEnough t m                       the tables t are long enough for the message m
--   FixedMessage, FewestBatches          what demands 2 and 3 ask of a written message
--   MeetsNone n                          n is none of the numbers of a list as it is judged: document 01's "none of refusals 21 to 26"
--   Demands                              THE CLAIM, of the four operations
use Rattle.std.specs.Prelude.{ℕ, ◌*◌, ◌≤◌, List, [], ◌∷◌, ◌⊎◌, ◌↔◌, ◌≡◌, length, take, drop, get_or}
use Rattle.std.proofs.Math.Option.{Option, none, some}
use Rattle.laws.specs.Bytes.{Bytes}
use Rattle.laws.specs.Lists.{total, All}
use Rattle.laws.specs.Put.{put_at}
use Rattle.profile.specs.Limits.{most_bytes}
use Rattle.profile.specs.declared.Flaw.{Flaw}
use Rattle.profile.specs.Refusals.{flaw_number}
use Rattle.profile.specs.Numbers.{TextNumber, BeforeTotals, CheckNumber, JudgedNumber, WriteNumber}
use Rattle.tree.specs.Form.{Message, message}
use Rattle.tree.specs.Pain008.{document, declaration}
use Rattle.message.specs.declared.Told.{Told}
use Rattle.message.specs.Message.{Batch, batches_of, worth}
use Rattle.message.specs.Verdict.{Verdict.accepted, totals_of}
use Rattle.answer.specs.Said.{Checked, said}
use Rattle.promise.specs.Check.{said_by, room_of, Checks}
use Rattle.promise.specs.Demand2.{Belongs, Enough}
use Rattle.promise.specs.Texts.{TextBreaks}
use Rattle.promise.specs.Addresses.{AddressBreaks}
use Rattle.daylist.specs.Breaks.{ValueBreaks}
use Rattle.bundle.specs.Bundle.{Fits}
use Rattle.collections.specs.Listed.{listed}
use Rattle.written.specs.Written.{message_for}
use Rattle.write.specs.Write.{Written, answered, answer_for, output_for}
use Rattle.carries.specs.Carried.{carried_by, Accepted, CarriesList}
use Rattle.desk.specs.declared.DeskChecked.{DeskChecked}
use Rattle.desk.specs.declared.DeskWritten.{DeskWritten}
use Rattle.desk.specs.Answers.{checked_numbers, DeskChecks, written_numbers}

-- ─── the operations ───

pub record Tables : Type 0 where
  pub slips : List ℕ
  pub rows : List ℕ

abbrev pub Check : Bytes × Tables → Checked × Tables → Type 0
Check x y = Checks x.0 x.1.slips x.1.rows (said y.0) y.1.slips y.1.rows

abbrev pub DeskCheck : Bytes × Tables → DeskChecked × Tables → Type 0
DeskCheck x y = DeskChecks x.0 x.1.slips x.1.rows y.0 y.1.slips y.1.rows

pub record Job : Type 0 where
  pub list : Bytes
  pub ceiling : ℕ

-- the lent buffer is the output
abbrev pub Write : Job × Bytes → Written × Bytes → Type 0
Write x y =
    (answered y.0 ≡ answer_for x.0.list x.0.ceiling (length x.1))
    × (y.1 ≡ output_for x.0.list x.0.ceiling x.1)

abbrev pub DeskWrite : Job × Bytes → DeskWritten × Bytes → Type 0
DeskWrite x y =
    (y.0 ≡ written_numbers (answer_for x.0.list x.0.ceiling (length x.1)))
    × (y.1 ≡ output_for x.0.list x.0.ceiling x.1)

abbrev pub check_told : Checked → DeskChecked
check_told r = checked_numbers (said r)

abbrev pub write_told : Written → DeskWritten
write_told r = written_numbers (answered r)

-- ─── demand 1 ───

-- "Every public operation takes any input, of any length, ends, and does its own checking": none has a `requires`, and a proof of a function includes that it ends.
-- I are the inputs, B the buffers, A the answers; `number` is 0 where nothing is refused, and Numbered are the papers' numbers
module _ {I A B : Type 0} (allows : I × B → A × B → Type 0) (number : A → ℕ) (Numbered : ℕ → Type 0) where
  pub record Demand1 : Type 0 where
    -- "Each refusal carries one of the numbers in document 01"
    pub numbers : (x : I × B) (y : A × B) → allows x y
        → (number y.0 ≡ 0) ⊎ Numbered (number y.0)
    -- "with its place, given exactly in the situation named there": any two outcomes that the promise allows are the same, answer and buffers
    pub once : (x : I × B) (y z : A × B) → allows x y → allows x z → y ≡ z
    -- "and the lent tables and buffers stay as they were"
    pub keeps : (x : I × B) (y : A × B) → allows x y
        → (number y.0 ≡ 0 → ⊥) → y.1 ≡ x.1

-- ─── demand 2 ───

-- what a row says of a declaration: mark and value
abbrev pub Tells : Option Told → ℕ → ℕ → Type 0
Tells none mark value = (mark ≡ 0) × (value ≡ 0)
Tells (some t) mark value = (mark ≡ 1) × (value ≡ worth t)

-- a row of the batch table, of the batch b
abbrev pub RowTells : Batch → List ℕ → Type 0
RowTells b row =
    Tells b.declared_count (get_or row 3 0) (get_or row 4 0)
    × Tells b.declared_sum (get_or row 5 0) (get_or row 6 0)

-- the rows of the batches, from the front of the table on
abbrev pub RowsTell : List Batch → List ℕ → Type 0
RowsTell [] rows = Unit {0}
RowsTell (b ∷ bs) rows = RowTells b (take 8 rows) × RowsTell bs (drop 8 rows)

abbrev pub LongEnough : Tables → Message document → Type 0
LongEnough t m = Enough (room_of t.slips t.rows) (said_by m)

-- the number of an answer is 0 where the message is accepted
module _ {A : Type 0} (allows : Bytes × Tables → A × Tables → Type 0) (told : A → DeskChecked) where
  pub record Demand2 : Type 0 where
    -- "With tables long enough, a message is accepted exactly when it belongs to our profile of ISO 20022 pain.008.001.08 and every count
    -- and control sum it declares equals the exact count and cents of its transactions, per batch and overall."
    pub exactly : (x : Bytes × Tables) (y : A × Tables) → allows x y
        → ((told y.0).number ≡ 0) ↔ ((m : Message document) × ((message declaration m ≡ x.0) × (Accepted m × LongEnough x.1 m)))
    -- the same of the bytes of any message m of the form
    pub of-message : (m : Message document) (t : Tables) (y : A × Tables) → allows (message declaration m, t) y → LongEnough t m
        → ((told y.0).number ≡ 0) ↔ Accepted m
    -- "A message belongs to the profile when it meets no refusal that stands before 6" (document 01)
    pub belongs : (x : Bytes × Tables) (y : A × Tables) → allows x y
        → ((m : Message document) × Belongs x.0 m) ↔ (BeforeTotals (told y.0).number → ⊥)
    -- "An accepted message answers its batches, transactions and cents" (document 01)
    pub answers : (x : Bytes × Tables) (y : A × Tables) → allows x y → (told y.0).number ≡ 0 → (m : Message document) → message declaration m ≡ x.0
        → told y.0 ≡ checked_numbers (accepted (totals_of (batches_of (said_by m))))
    -- "What is absent is reported as absent."
    pub absent : (x : Bytes × Tables) (y : A × Tables) → allows x y → (told y.0).number ≡ 0 → (m : Message document) → message declaration m ≡ x.0
        → RowsTell (batches_of (said_by m)) y.1.rows

-- "The writer's message for a list is the one document 01 fixes, is accepted and carries that list's collections" (how it carries them is demand 3)
pub record FixedMessage (s : Bytes) (c n : ℕ) (out out' : Bytes) : Type 0 where
  -- it stands at the output's front, n bytes long, and is not longer than a message may be
  pub fixed : out' ≡ put_at out 0 (message declaration (message_for s c))
  pub long : n ≡ length (message declaration (message_for s c))
  pub short : n ≤ most_bytes
  -- what was written, handed to the check with tables long enough, is accepted with the list's batches, collections and cents
  pub checked : (t : Tables) (y : Checked × Tables) → Check (take n out', t) y
      → 12 * length (listed s) ≤ length t.slips → 8 * length (carried_by (message_for s c)) ≤ length t.rows
      → check_told y.0
      ≡ record {
        number = 0;
        place = 0;
        batches = length (carried_by (message_for s c));
        transactions = length (listed s);
        cents = total (λ x. x.cents) (listed s);
      }

-- ─── demand 3 ───

abbrev pub MeetsNone : ℕ → Type 0
MeetsNone n = JudgedNumber n → ⊥

pub record FewestBatches (s : Bytes) (c : ℕ) : Type 0 where
  -- "the written message carries exactly the listed collections, repeats included,"
  pub carries : CarriesList (message_for s c) c (listed s)
  -- "each in a batch of its own scheme, sequence and date."
  pub own-terms : All (Fits (λ x. x.terms) c) (carried_by (message_for s c))
  -- "No message accepted under demand 2 that carries the same collections with no batch above the ceiling has fewer batches."
  pub fewest : (m : Message document) → CarriesList m c (listed s) → length (carried_by (message_for s c)) ≤ length (carried_by m)

-- the number of an answer is 0 where the message is written, and its place is then the length
module _ {A : Type 0} (allows : Job × Bytes → A × Bytes → Type 0) (told : A → DeskWritten) where
  pub record Demand3 : Type 0 where
    -- "For a day list and a ceiling of 1 to 500 collections a batch that meet none of refusals 21 to 26, given room,": a message is written, or 27 is answered
    pub given_room : (x : Job × Bytes) (y : A × Bytes) → allows x y → MeetsNone (told y.0).number → most_bytes ≤ length x.1
        → ((told y.0).number ≡ 0) ⊎ ((told y.0).number ≡ 27)
    -- the written message
    pub fixed : (x : Job × Bytes) (y : A × Bytes) → allows x y → (told y.0).number ≡ 0
        → FixedMessage x.0.list x.0.ceiling (told y.0).place x.1 y.1
    pub fewest : (x : Job × Bytes) (y : A × Bytes) → allows x y → (told y.0).number ≡ 0
        → FewestBatches x.0.list x.0.ceiling
    -- "The list is refused for too many batches exactly when no such message exists at all", whatever the room
    pub too_many : (x : Job × Bytes) (y : A × Bytes) → allows x y → MeetsNone (told y.0).number
        → ((told y.0).number ≡ 27) ↔ ((m : Message document) → CarriesList m x.0.ceiling (listed x.0.list) → ⊥)

-- ─── request 1: "Say what is wrong with the text" ───

module _ {A : Type 0} (allows : Bytes × Tables → A × Tables → Type 0) (told : A → DeskChecked) where
  pub record TextsRefused : Type 0 where
    -- "5 and 26 are replaced by 51 length, 52 letter, ..": the number is that of the first test that the first bad text fails, the place its start
    pub numbered : (x : Bytes × Tables) (y : A × Tables) (f : Flaw) (p : ℕ) → allows x y
        → (((told y.0).number ≡ flaw_number f) × ((told y.0).place ≡ p)) ↔ ((m : Message document) × TextBreaks x.0 m f p)
    -- so one of the eight is given at a place exactly where document 01 names 5 there
    pub somewhere : (x : Bytes × Tables) (y : A × Tables) (p : ℕ) → allows x y
        → (TextNumber (told y.0).number × ((told y.0).place ≡ p)) ↔ ((f : Flaw) × ((m : Message document) × TextBreaks x.0 m f p))

module _ {A : Type 0} (allows : Job × Bytes → A × Bytes → Type 0) (told : A → DeskWritten) where
  pub record ValuesRefused : Type 0 where
    -- "For a list the answer also tells the field"
    pub numbered : (x : Job × Bytes) (y : A × Bytes) (f : Flaw) (n i : ℕ) → allows x y
        → (((told y.0).number ≡ flaw_number f) × (((told y.0).place ≡ n) × ((told y.0).field ≡ i))) ↔ ValueBreaks x.0.list x.0.ceiling f n i
    -- so one of the eight is given at a line exactly where document 01 names 26 there
    pub somewhere : (x : Job × Bytes) (y : A × Bytes) (n : ℕ) → allows x y
        → (TextNumber (told y.0).number × ((told y.0).place ≡ n)) ↔ ((f : Flaw) × ((i : ℕ) × ValueBreaks x.0.list x.0.ceiling f n i))
    -- and no other answer has a field
    pub no_field : (x : Job × Bytes) (y : A × Bytes) → allows x y → (TextNumber (told y.0).number → ⊥) → (told y.0).field ≡ 0

-- ─── request 3: "Postal addresses of debtors and creditors" ───

module _ {A : Type 0} (allows : Bytes × Tables → A × Tables → Type 0) (told : A → DeskChecked) where
  pub record AddressesRefused : Type 0 where
    -- "59 address mix, at the `<` of PstlAdr, a stage of its own after all texts and before totals": it asks nothing of totals and tables
    pub numbered : (x : Bytes × Tables) (y : A × Tables) (p : ℕ) → allows x y
        → (((told y.0).number ≡ 59) × ((told y.0).place ≡ p)) ↔ ((m : Message document) × AddressBreaks x.0 m p)

-- ─── the claim ───

pub record Demands : Type 0 where
  pub check_1 : Demand1 Check (λ r. (check_told r).number) CheckNumber
  pub desk_check_1 : Demand1 DeskCheck (λ r. r.number) CheckNumber
  pub write_1 : Demand1 Write (λ r. (write_told r).number) WriteNumber
  pub desk_write_1 : Demand1 DeskWrite (λ r. r.number) WriteNumber
  pub check_2 : Demand2 Check check_told
  pub desk_check_2 : Demand2 DeskCheck (λ r. r)
  pub write_3 : Demand3 Write write_told
  pub desk_write_3 : Demand3 DeskWrite (λ r. r)
  pub check_texts : TextsRefused Check check_told
  pub desk_check_texts : TextsRefused DeskCheck (λ r. r)
  pub check_addresses : AddressesRefused Check check_told
  pub desk_check_addresses : AddressesRefused DeskCheck (λ r. r)
  pub write_values : ValuesRefused Write write_told
  pub desk_write_values : ValuesRefused DeskWrite (λ r. r)
