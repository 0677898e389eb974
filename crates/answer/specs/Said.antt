-- WHAT AN ANSWER OF THE CODE SAYS, in the papers' numbers and places. To be believed; definitions only.
--   said r   the totals of an accepted message; the number and place of a refusal
use Rattle.std.specs.Prelude.{Result, Ok, Err}
use Rattle.profile.specs.declared.Totals.{Totals}
use Rattle.profile.specs.declared.Refusal.{Refusal}
use Rattle.profile.specs.Refusals.{fault_of}
use Rattle.message.specs.Verdict.{Verdict, Verdict.accepted, Verdict.refused}

-- what is answered: the totals, or the refusal of the first stage that finds a fault
abbrev pub Checked : Type 0
Checked = Result Totals Refusal

abbrev pub said : Checked → Verdict
said (Ok t) = accepted t
said (Err f) = refused (fault_of f)
