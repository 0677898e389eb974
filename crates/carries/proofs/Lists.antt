-- DEMAND 3, OF EVERY LIST that is judged good: it meets none of 21 to 25 and 51 to 58.
--   list-carried       where no more batches are needed than the profile has, the written message carries the list's batches
--   list-carries       then it is accepted and carries exactly the listed collections, with no batch above the ceiling
--   list-checked       with tables long enough the check accepts it, with the needed batches, the listed collections and their cents
--   list-fewest        no accepted message that carries them with no batch above the ceiling has fewer batches
--   list-refused       more batches are needed than the profile has exactly when no such message exists
use Prim.Native.Nat.{ℕ, ◌*◌, ◌≤◌, ◌<◌}
use native.Mathlib.Omega.{arith}
use mathlib.Core.List.{List}
use mathlib.Core.Path.{◌≡◌, ap, ◌∙◌}
use mathlib.Core.Logic.{◌↔◌}
use lib.ListN.{length}
use Rattle.std.specs.Prelude.{Ok}
use Rattle.laws.specs.Bytes.{Bytes}
use Rattle.laws.specs.Lists.{concat}
use Rattle.profile.specs.Limits.{most_batches, most_collections}
use Rattle.profile.specs.declared.Totals.{Totals}
use Rattle.tree.specs.Form.{Message}
use Rattle.tree.specs.Pain008.{document}
use Rattle.message.specs.Message.{batches_of}
use Rattle.message.specs.Verdict.{Verdict, Verdict.accepted, totals_of}
use Rattle.promise.specs.Check.{said_by, Checks}
use Rattle.promise.proofs.Demand2.{demand_2_accepts}
use Rattle.daylist.specs.Stages.{judged_list}
use Rattle.daylist.proofs.Goods.{good-list}
use Rattle.bundle.specs.Bundle.{Same, need}
use Rattle.bundle.proofs.Batches.{batches-same, batches-number}
use Rattle.collections.specs.Listed.{same_terms, creditor, listed}
use Rattle.collections.proofs.Terms.{terms_decide}
use Rattle.collections.proofs.Goods.{good-number, good-creditor, good-collections}
use Rattle.written.specs.Written.{batches_for, message_for, written}
use Rattle.carries.specs.Carried.{carried_by, CarriesList}
use Rattle.carries.specs.Contents.{total_cents}
use Rattle.carries.proofs.Sums.{same_length, same_total}
use Rattle.carries.proofs.Exact.{totals_in, same-totals, totals-carried}
use Rattle.carries.proofs.Demand3.{message-carried, message-carries, message-fewest, refused-exactly}

module _ (s : Bytes) (c n : ℕ) (e : judged_list s c ≡ Ok n) where
  some : 1 ≤ length (listed s)
  some = omega (arith, good-number s c n e, (good-list s c n e).some)

  most : length (listed s) ≤ most_collections
  most = omega (arith, good-number s c n e, (good-list s c n e).few)

  ceiling : 1 ≤ c
  ceiling = (good-list s c n e).least

  pub list-carried : need (λ x. x.terms) same_terms c (listed s) ≤ most_batches → carried_by (message_for s c) ≡ batches_for s c
  list-carried = message-carried c (listed s) ceiling (creditor s) (good-creditor s c n e) (good-collections s c n e) some most

  pub list-carries : need (λ x. x.terms) same_terms c (listed s) ≤ most_batches → CarriesList (message_for s c) c (listed s)
  list-carries = message-carries c (listed s) ceiling (creditor s) (good-creditor s c n e) (good-collections s c n e) some most

  pub list-fewest : (m : Message document) → CarriesList m c (listed s) → length (batches_for s c) ≤ length (carried_by m)
  list-fewest = message-fewest c (listed s) ceiling

  pub list-refused : (most_batches < need (λ x. x.terms) same_terms c (listed s)) ↔ ((m : Message document) → CarriesList m c (listed s) → ⊥)
  list-refused = refused-exactly c (listed s) ceiling (creditor s) (good-creditor s c n e) (good-collections s c n e) some most

  -- what it is worth
  abbrev pub worth : Totals
  worth = record { batches = need (λ x. x.terms) same_terms c (listed s); transactions = record { 0 = n }; cents = record { 0 = total_cents (listed s) } }

  worth-carried : need (λ x. x.terms) same_terms c (listed s) ≤ most_batches → totals_of (batches_of (said_by (message_for s c))) ≡ worth
  worth-carried few =
      let t : Same (concat (batches_for s c)) (listed s) = batches-same (λ x. x.terms) same_terms terms_decide c (listed s) ceiling in
      totals-carried (message_for s c)
      ∙ ap totals_in (list-carried few)
      ∙ same-totals (length (batches_for s c)) (need (λ x. x.terms) same_terms c (listed s)) (length (concat (batches_for s c))) n (total_cents (concat (batches_for s c))) (total_cents (listed s))
      (batches-number (λ x. x.terms) same_terms terms_decide c (listed s) ceiling)
      (same_length (concat (batches_for s c)) (listed s) t ∙ good-number s c n e)
      (same_total (λ x. x.cents) (concat (batches_for s c)) (listed s) t)

  module _ (slips rows : List ℕ) (v : Verdict) (slips' rows' : List ℕ) where
    pub list-checked : need (λ x. x.terms) same_terms c (listed s) ≤ most_batches → Checks (written s c) slips rows v slips' rows'
        → 12 * n ≤ length slips → 8 * need (λ x. x.terms) same_terms c (listed s) ≤ length rows → v ≡ accepted worth
    unfolding written
    list-checked few h a b =
        let m : Message document = message_for s c in
        let l : CarriesList m c (listed s) = list-carries few in
        let w : totals_of (batches_of (said_by m)) ≡ worth = worth-carried few in
        demand_2_accepts (written s c) slips rows v slips' rows' h m l.accepted.belongs l.accepted.agree
        (record { slips = rw (ap (λ (t : Totals). t.transactions.0) w) a; rows = rw (ap (λ (t : Totals). t.batches) w) b })
        ∙ ap accepted w
