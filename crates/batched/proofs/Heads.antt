-- THE FIRST COLLECTION OF A BATCH, and what stands before it.
--   first_under, first-terms   it is there; its terms are those of the batch
--   head_join                  the batch before its first transaction, from its totals, its terms and the creditor
use Prim.Native.Nat.{ℕ, ◌<◌}
use mathlib.Core.Bool.{not}
use mathlib.Core.List.{List, ◌++◌}
use mathlib.Core.Path.{◌≡◌, ap, sym, ◌∙◌}
use lib.Dec.{eqb}
use lib.ListN.{length, get_or}
use Rattle.laws.specs.Bytes.{Bytes, span}
use Rattle.laws.specs.Lists.{total}
use Rattle.bundle.specs.Labels.{pick}
use Rattle.put.specs.declared.Output.{Output}
use Rattle.put.specs.Wrote.{Wrote}
use Rattle.collections.specs.Listed.{Terms, Collection, Creditor, listed}
use Rattle.written.specs.Written.{no_collection, terms_of}
use Rattle.written.specs.Pieces.{totals_bytes, terms_bytes, creditor_bytes, head_bytes}
use Rattle.batched.specs.Ready.{BatchesReady}
use Rattle.batched.proofs.Picks.{pick_first, first-there}

module _ (s : Bytes) (table labels : List ℕ) (m k : ℕ) (q : BatchesReady s table labels m) (h : k < m) (first : ℕ) (e : first ≡ span (λ l. not (eqb k l)) labels) where
  pub first_under : first < length labels
  first_under = rw e (first-there k labels (q.some k h))

  pub first-terms : (get_or (listed s) first no_collection).terms ≡ terms_of (pick k labels (listed s))
  first-terms =
      ap (λ (i : ℕ). (get_or (listed s) i no_collection).terms) e
      ∙ sym (ap terms_of (pick_first k no_collection labels (listed s) q.ready.count (first-there k labels (q.some k h))))

pub head_join : {o o' : Output} (cr : Creditor) (n : ℕ) (xs : List Collection) (count sum : ℕ) (t : Terms)
    → count ≡ length xs → sum ≡ total (λ x. x.cents) xs → t ≡ terms_of xs
    → Wrote o o' (totals_bytes n count sum ++ (terms_bytes t ++ creditor_bytes cr)) → Wrote o o' (head_bytes cr n xs)
unfolding head_bytes
head_join cr n xs count sum t a b c w = rw (← a, ← b, ← c) w
