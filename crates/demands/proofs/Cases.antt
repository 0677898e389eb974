-- THE CASES OF THE DEFINITIONS, of the check's promise: every outcome for a message of message/proofs/Cases gives the number and the place that the case has.
--   answer-read   the verdict of the check is what the definitions compute of the message as it is read
--   cases-hold    so each case holds of every outcome that the promise allows
use Prim.Native.Nat.{ℕ, ◌≤◌}
use native.Mathlib.Omega.{arith}
use mathlib.Core.Bool.{Bool, ◌&&◌}
use mathlib.Core.List.{List}
use mathlib.Core.Logic.{◌⊎◌, inl, inr}
use mathlib.Core.Path.{◌≡◌, ap, sym, ◌∙◌}
use lib.Dec.{T, eqb, leb, eqb→eq}
use lib.ListN.{length}
use borrow.Author.Tests.{leb-true}
use Rattle.laws.specs.Bytes.{Bytes}
use Rattle.laws.specs.Lists.{All}
use Rattle.laws.proofs.Below.{of-each}
use Rattle.laws.proofs.Tests.{and_l, and_r, T_true}
use Rattle.profile.specs.Limits.{most_bytes}
use Rattle.profile.specs.Refusals.{fault}
use Rattle.tree.specs.Form.{message}
use Rattle.tree.specs.Reader.{kids, read, Res, Res.done, Res.stuck}
use Rattle.tree.specs.Pain008.{document, declaration}
use Rattle.tree.proofs.Whole.{Promise}
use Rattle.tree.proofs.Pain008.{read_right, read_all, place-one}
use Rattle.message.specs.Verdict.{Verdict, Verdict.refused}
use Rattle.message.proofs.Cases.{verdict_read, told_as, Case, computed, right, cases}
use Rattle.promise.specs.Check.{room_of, Long, OutOfForm, ByStages, Checks}

module _ (s : Bytes) (slips rows : List ℕ) (v : Verdict) (a b : List ℕ) where
  pub answer-read : Checks s slips rows v a b → length s ≤ most_bytes → v ≡ verdict_read s (room_of slips rows) (read declaration document s)
  answer-read h l = go h.case
    where
      at_place : (q : OutOfForm s slips rows v a b) (o : Res) → Promise declaration document s o → refused (fault 2 q.place) ≡ verdict_read s (room_of slips rows) o
      at_place q (done es) p = absurd (q.not_of_form.0 (p.0, p.1))
      at_place q (stuck m) p = ap (λ (k : ℕ). refused (fault 2 k)) (place-one s q.place m q.not_of_form.1 p.1)

      go : Long s slips rows v a b ⊎ (OutOfForm s slips rows v a b ⊎ ByStages s slips rows v a b) → v ≡ verdict_read s (room_of slips rows) (read declaration document s)
      go (inl q) = absurd (omega (arith, q.long))
      go (inr (inl q)) = q.answer ∙ at_place q (read declaration document s) (read_right s)
      go (inr (inr q)) =
          q.answer
          ∙ sym (ap (verdict_read (message declaration q.read) (room_of slips rows)) (read_all q.read))
          ∙ ap (λ (u : Bytes). verdict_read u (room_of slips rows) (read declaration document u)) q.bytes

-- every outcome of the check for the message and such tables gives the number and the place
Answers : Case → Type 0
Answers c = (slips rows : List ℕ) (v : Verdict) (a b : List ℕ) → length slips ≡ c.slips → length rows ≡ c.rows → Checks c.message slips rows v a b
    → ((told_as v).number ≡ c.number) × ((told_as v).place ≡ c.place)

-- the message is not too long, and what is computed is right
passes : Case → Bool
passes c = leb (length c.message) most_bytes && right c

answers : (c : Case) → T (passes c) → Answers c
unfolding Answers passes
answers c t slips rows v a b p q h =
    let n : Bool = eqb (computed c).number c.number in
    let o : Bool = eqb (computed c).place c.place in
    let l : length c.message ≤ most_bytes = leb-true _ _ (T_true _ (and_l (leb (length c.message) most_bytes) (right c) t)) in
    let u : T (n && o) = and_r (leb (length c.message) most_bytes) (right c) t in
    let e : v ≡ verdict_read c.message (record { slips = c.slips; rows = c.rows }) (read declaration document c.message) =
    rw (p, q) at (answer-read c.message slips rows v a b h l)
    in
    (ap (λ (w : Verdict). (told_as w).number) e ∙ eqb→eq _ _ (and_l n o u), ap (λ (w : Verdict). (told_as w).place) e ∙ eqb→eq _ _ (and_r n o u))

cases-hold : All Answers cases
unfolding passes kids
cases-hold = of-each passes Answers answers cases tt
