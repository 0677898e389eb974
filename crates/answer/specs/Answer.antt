-- WHAT IS ANSWERED after the last event, as the code says it, of the row w and the totals y. Executable; that it is the verdict is proofs/Right.
--   mix_found f       the first address whose mix is bad
--   batch_found f     the first fault of a batch: of its count, else of its sum
--   count_found w n, sum_found w c   the header's count, and its sum, where they are declared and differ
--   answer r w y     what is answered where r is the room of the tables
--   stage_fault       what a stage of the code says
use Rattle.std.specs.Prelude.{◌*◌, [], ◌∷◌, eqb, leb, Result, Ok, Err}
use Rattle.std.proofs.Math.Option.{Option, none, some}
use Rattle.profile.specs.declared.NumberOfTransactions.{NumberOfTransactions}
use Rattle.profile.specs.declared.ControlSum.{ControlSum}
use Rattle.profile.specs.declared.Totals.{Totals}
use Rattle.profile.specs.declared.Refusal.{Refusal}
use Rattle.profile.specs.Refusals.{Fault, fault, fault_of}
use Rattle.profile.specs.Totals.{count_differs, sum_differs}
use Rattle.tree.specs.Parts as part
use Rattle.message.specs.Verdict.{Room, Verdict, verdict, at, first, unless}
use Rattle.heard.specs.declared.Word.{Word}
use Rattle.heard.specs.State.{if_true, when, over, count_of, sum_of}
use Rattle.heard.specs.Row.{Row}

abbrev pub mix_found : Option Fault → Option Fault
mix_found none = none
mix_found (some f) = some (fault 59 f.place)

abbrev pub batch_found : Option Fault → Option Fault
batch_found none = none
batch_found (some f) = some (fault (if_true (eqb f.number 6) 6 7) f.place)

abbrev pub count_found : Word → NumberOfTransactions → Option Fault
count_found w n = at 8 (when (count_differs (count_of w) n) w.start)

abbrev pub sum_found : Word → ControlSum → Option Fault
sum_found w c = at 9 (when (sum_differs (sum_of w) c) w.start)

abbrev pub answer : Room → Row → Totals → Verdict
answer r w y =
    verdict (first (
    at 3 (over w.batches.left w.batches.place)
    ∷ at 4 (over w.transactions.left w.transactions.place)
    ∷ w.bad
    ∷ mix_found w.mixes.found
    ∷ batch_found w.fault
    ∷ count_found (w.said part.message_count) y.transactions
    ∷ sum_found (w.said part.message_sum) y.cents
    ∷ at 10 (unless (leb (12 * y.transactions.0) r.slips) (12 * y.transactions.0))
    ∷ at 11 (unless (leb (8 * y.batches) r.rows) (8 * y.batches))
    ∷ []))
    y

abbrev pub stage_fault : Result Unit Refusal → Option Fault
stage_fault (Ok u) = none
stage_fault (Err x) = some (fault_of x)
