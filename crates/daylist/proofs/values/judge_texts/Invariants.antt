-- `daylist::values::judge_texts` meets its contract. The invariant: all texts are judged as those from `at` on are, as the fields from the index on.
use Rattle.daylist.proofs.Judging.{judged_from}
use Rattle.daylist.specs.Values.{judged_texts, first_bad}
use Rattle.frames.specs.Frames.{texts}
use Rattle.frames.specs.Hex.{unhex}
use lib.ListN.{length, drop}
use mathlib.Core.Path.{◌≡◌}
use Rattle.daylist.proofs.values.judge_texts.Given as goal

abbrev pub invariant-loop-i : goal.invariant-loop-i
invariant-loop-i l = first_bad l.before (judged_texts l.fields (texts (length l.fields) (drop l.from (unhex l.line)))) ≡ judged_from l.before l.fields l.i (unhex l.line) l.at
