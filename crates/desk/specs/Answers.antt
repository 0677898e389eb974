-- WHAT THE FUNCTIONS OF THE DESK ANSWER, in numbers. To be believed; definitions only.
--   checked_numbers v         number 0 and the totals of an accepted message; the number and place of a refusal, and totals 0
--   written_numbers a         number 0 and the length of a written message; the number, place and field of a refusal
--   DeskChecks s slips rows r slips' rows'   the check's promise (promise/specs/Check), its answer in numbers
use Rattle.std.specs.Prelude.{ℕ, List, ◌≡◌}
use Rattle.laws.specs.Bytes.{Bytes}
use Rattle.message.specs.Verdict.{Verdict, Verdict.accepted, Verdict.refused}
use Rattle.promise.specs.Check.{Checks}
use Rattle.write.specs.Write.{Answer, Answer.success, Answer.refused as unwritten}
use Rattle.desk.specs.declared.DeskChecked.{DeskChecked}
use Rattle.desk.specs.declared.DeskWritten.{DeskWritten}

abbrev pub checked_numbers : Verdict → DeskChecked
checked_numbers (accepted t) = record { number = 0; place = 0; batches = t.batches; transactions = t.transactions.0; cents = t.cents.0 }
checked_numbers (refused f) = record { number = f.number; place = f.place; batches = 0; transactions = 0; cents = 0 }

pub record DeskChecks (s : Bytes) (slips rows : List ℕ) (r : DeskChecked) (slips' rows' : List ℕ) : Type 0 where
  pub verdict : Verdict
  pub checks : Checks s slips rows verdict slips' rows'
  pub numbers : r ≡ checked_numbers verdict

abbrev pub written_numbers : Answer → DeskWritten
written_numbers (success n) = record { number = 0; place = n; field = 0 }
written_numbers (unwritten f) = record { number = f.number; place = f.place; field = f.field }
