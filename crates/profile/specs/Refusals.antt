-- THE REFUSALS: the papers' number, place and field of each case. To be believed; definitions only.
--   flaw_number f             51 to 58: the number of a text's refusal is that of its flaw, in a message and in a list
--   Fault, fault n p         a refusal as the papers have it, its number and its place; value_fault f l i: a value's in a list, with its field
--   fault_of, list_fault_of     what each refusal of the check, and of a day list, is reported as
--   number_of, place_of, list_number_of, list_place_of, list_field_of   its number, its place, and its field
use Rattle.std.specs.Prelude.{ℕ, ◌+◌}
use Rattle.profile.specs.declared.Flaw.{Flaw}
use Rattle.profile.specs.declared.Flaw.TheVariants.{Length, Letter, Slash, Number, Date, Code, Shape, CheckDigits}
use Rattle.profile.specs.declared.Refusal.{Refusal}
use Rattle.profile.specs.declared.Refusal.TheVariants.{TooLong, NotOfTheForm, TooManyBatches, TooManyTransactions, Text, AddressMix, BatchCount, BatchSum, MessageCount, MessageSum, SlipsTooShort, BatchesTooShort}
use Rattle.profile.specs.declared.ListRefusal.{ListRefusal}
use Rattle.profile.specs.declared.ListRefusal.TheVariants.{TooLong as ListTooLong, Ceiling, NotAFrame, NoCollection, TooManyCollections, Value, TooManyBatches as BatchesNeeded, OutputTooShort}
use Rattle.profile.specs.Limits.{most_bytes, most_collections}

-- "51 length, 52 letter, 53 slash, 54 number shape or range, 55 date or time, 56 code, 57 IBAN or other shape, 58 check digits" (request 1)
abbrev pub flaw_number : Flaw → ℕ
flaw_number Length = 51
flaw_number Letter = 52
flaw_number Slash = 53
flaw_number Number = 54
flaw_number Date = 55
flaw_number Code = 56
flaw_number Shape = 57
flaw_number CheckDigits = 58

-- the field is that of a value in a list, and 0 elsewhere
pub record Fault : Type 0 where
  pub number : ℕ
  pub place : ℕ
  pub field : ℕ

abbrev pub fault : ℕ → ℕ → Fault
fault n p = record { number = n; place = p; field = 0 }

abbrev pub value_fault : Flaw → ℕ → ℕ → Fault
value_fault f line i = record { number = flaw_number f; place = line; field = i }

-- ─── of the check ───

abbrev pub fault_of : Refusal → Fault
fault_of TooLong = fault 1 most_bytes
fault_of (NotOfTheForm p) = fault 2 p
fault_of (TooManyBatches p) = fault 3 p
fault_of (TooManyTransactions p) = fault 4 p
fault_of (Text f p) = fault (flaw_number f) p
fault_of (AddressMix p) = fault 59 p  -- request 3
fault_of (BatchCount p) = fault 6 p
fault_of (BatchSum p) = fault 7 p
fault_of (MessageCount p) = fault 8 p
fault_of (MessageSum p) = fault 9 p
fault_of (SlipsTooShort n) = fault 10 n
fault_of (BatchesTooShort n) = fault 11 n

abbrev pub number_of : Refusal → ℕ
number_of r = (fault_of r).number

abbrev pub place_of : Refusal → ℕ
place_of r = (fault_of r).place

-- ─── of a day list ───

abbrev pub list_fault_of : ListRefusal → Fault
list_fault_of ListTooLong = fault 21 0
list_fault_of Ceiling = fault 22 0
list_fault_of (NotAFrame line) = fault 23 line
list_fault_of (NoCollection lines) = fault 24 lines
list_fault_of TooManyCollections = fault 25 (most_collections + 2)  -- 1,002: after the creditor line and a thousand collections
list_fault_of (Value f line i) = value_fault f line i
list_fault_of (BatchesNeeded n) = fault 27 n
list_fault_of (OutputTooShort n) = fault 28 n

abbrev pub list_number_of : ListRefusal → ℕ
list_number_of r = (list_fault_of r).number

abbrev pub list_place_of : ListRefusal → ℕ
list_place_of r = (list_fault_of r).place

abbrev pub list_field_of : ListRefusal → ℕ
list_field_of r = (list_fault_of r).field
