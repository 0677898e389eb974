-- WHAT THE WRITER ANSWERS, AND LEAVES IN THE OUTPUT. To be believed; definitions only. A refusal is reported by the papers' number, place and field: 27 and 28 here, the others by profile's `list_fault_of`.
--   success n, refused f   an answer: the message is n bytes long; the refusal f
--   answered r             what the code's answer r says
--   batches_needed s c      how many batches the list s needs at the ceiling c
--   fitted m room          28: the message m where there is room for it
--   bundled n a            27: at most so many batches
--   as_judged j a           21 to 25 and 51 to 58: the list as it is judged
--   answer_for s c room     THE ANSWER for the list s at the ceiling c, with so much room: the first refusal, or the length of the message
--   output_for s c out      THE OUTPUT afterwards: the message at its front and otherwise as it was; on refusal as it was
use Rattle.std.specs.Prelude.{ℕ, true, false, leb, length, Result, Ok, Err}
use Rattle.laws.specs.Bytes.{Bytes}
use Rattle.laws.specs.Put.{put_at}
use Rattle.profile.specs.Limits.{most_batches}
use Rattle.profile.specs.Refusals.{Fault, fault, list_fault_of}
use Rattle.profile.specs.declared.ListRefusal.{ListRefusal}
use Rattle.daylist.specs.Stages.{JudgedList, judged_list}
use Rattle.bundle.specs.Bundle.{need}
use Rattle.collections.specs.Listed.{same_terms, listed}
use Rattle.written.specs.Written.{written}

pub data Answer : Type 0 where
  success : ℕ → Answer
  refused : Fault → Answer

-- what comes of writing: the length of the message, or why there is none
abbrev pub Written : Type 0
Written = Result ℕ ListRefusal

abbrev pub answered : Written → Answer
answered (Ok n) = success n
answered (Err r) = refused (list_fault_of r)

abbrev pub batches_needed : Bytes → ℕ → ℕ
batches_needed s c = need (λ x. x.terms) same_terms c (listed s)

-- 28
abbrev pub fitted : Bytes → ℕ → Answer
fitted m room = elim (leb (length m) room) [ true ↦ success (length m) | false ↦ refused (fault 28 (length m)) ]

-- 27
abbrev pub bundled : ℕ → Answer → Answer
bundled n a = elim (leb n most_batches) [ true ↦ a | false ↦ refused (fault 27 n) ]

-- 21 to 25 and 51 to 58
abbrev pub as_judged : JudgedList → Answer → Answer
as_judged (Ok n) a = a
as_judged (Err r) a = refused (list_fault_of r)

unfoldable pub answer_for : Bytes → ℕ → ℕ → Answer
answer_for s c room = as_judged (judged_list s c) (bundled (batches_needed s c) (fitted (written s c) room))

-- the message m is written where the answer is its length
abbrev pub output_after : Answer → Bytes → Bytes → Bytes
output_after (success n) m out = put_at out 0 m
output_after (refused f) m out = out

unfoldable pub output_for : Bytes → ℕ → Bytes → Bytes
output_for s c out = output_after (answer_for s c (length out)) (written s c) out
