-- THE ANSWER AND THE OUTPUT, case by case.
--   write_once                  an answer of the code is known by what it says
--   Answered s c out a out'     a is the answer, and out' the output afterwards
--   answered-bad                the list is refused
--   answered-many               too many batches are needed
--   answered-good               else it is a matter of room
use Prim.Native.Nat.{ℕ, ◌≤◌, ◌<◌}
use native.Mathlib.Omega.{arith}
use mathlib.Core.Path.{◌≡◌, refl, sym, ap, ◌∙◌}
use lib.ListN.{length}
use borrow.Author.Tests.{le-leb, lt-leb}
use Rattle.std.specs.Prelude.{Err, Ok}
use Rattle.laws.specs.Bytes.{Bytes}
use Rattle.profile.specs.Limits.{most_batches}
use Rattle.profile.specs.Refusals.{fault, list_fault_of}
use Rattle.profile.specs.declared.ListRefusal.{ListRefusal}
use Rattle.profile.proofs.Faults.{list_fault_once}
use Rattle.daylist.specs.Stages.{judged_list}
use Rattle.written.specs.Written.{written}
use Rattle.write.specs.Write.{Written, Answer, Answer.refused, answered, batches_needed, fitted, bundled, output_after, answer_for, output_for}

pub write_once : (r q : Written) → answered r ≡ answered q → r ≡ q
write_once (Ok n) (Ok m) e = cc
write_once (Ok n) (Err f) e = absurd (let z : ◌≡◌ {A = ℕ} 0 1 = cc in omega arith)
write_once (Err f) (Ok n) e = absurd (let z : ◌≡◌ {A = ℕ} 0 1 = cc in omega arith)
write_once (Err f) (Err g) e = ap Err (list_fault_once f g (cc))

abbrev pub Answered : Bytes → ℕ → Bytes → Answer → Bytes → Type 0
Answered s c out a out' = (a ≡ answer_for s c (length out)) × (out' ≡ output_for s c out)

-- ─── 27 and 28 ───

few : (n : ℕ) (w : Answer) → n ≤ most_batches → bundled n w ≡ w
few n w h = rw (le-leb n most_batches h, bundled)

many : (n : ℕ) (w : Answer) → most_batches < n → bundled n w ≡ refused (fault 27 n)
many n w h = rw (lt-leb n most_batches h, bundled)

-- ─── the whole ───

-- the output is as the answer says
both : (s : Bytes) (c : ℕ) (out : Bytes) (r : Answer) (out' : Bytes) → r ≡ answer_for s c (length out) → out' ≡ output_after r (written s c) out → Answered s c out r out'
unfolding output_for
both s c out r out' a b = (a, b ∙ ap (λ (w : Answer). output_after w (written s c) out) a)

answer-bad : (s : Bytes) (c room : ℕ) (r : ListRefusal) → judged_list s c ≡ Err r → answer_for s c room ≡ refused (list_fault_of r)
unfolding answer_for
answer-bad s c room r e = rw e

answer-good : (s : Bytes) (c room n : ℕ) → judged_list s c ≡ Ok n → answer_for s c room ≡ bundled (batches_needed s c) (fitted (written s c) room)
unfolding answer_for
answer-good s c room n e = rw e

module _ (s : Bytes) (c : ℕ) (out : Bytes) where
  pub answered-bad : (r : ListRefusal) → judged_list s c ≡ Err r → Answered s c out (refused (list_fault_of r)) out
  answered-bad r e = both s c out (refused (list_fault_of r)) out (sym (answer-bad s c (length out) r e)) refl

  module _ (n : ℕ) (e : judged_list s c ≡ Ok n) where
    pub answered-many : (m : ℕ) → m ≡ batches_needed s c → most_batches < m → Answered s c out (refused (fault 27 m)) out
    answered-many m d h =
        both s c out (refused (fault 27 m)) out
        (rw d (sym (answer-good s c (length out) n e ∙ many (batches_needed s c) (fitted (written s c) (length out)) (omega arith)))) refl

    pub answered-good : (m : Bytes) (r : Answer) (out' : Bytes) → m ≡ written s c → batches_needed s c ≤ most_batches → r ≡ fitted m (length out) → out' ≡ output_after r m out → Answered s c out r out'
    answered-good m r out' d h a b =
        both s c out r out'
        (a ∙ ap (λ (w : Bytes). fitted w (length out)) d ∙ sym (answer-good s c (length out) n e ∙ few (batches_needed s c) (fitted (written s c) (length out)) h))
        (b ∙ ap (λ (w : Bytes). output_after r w out) d)
