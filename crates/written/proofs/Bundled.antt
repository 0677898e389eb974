-- THE MESSAGE FOR GOOD COLLECTIONS, bundled at a ceiling from 1.
--   batches-good, batches-hold, batches-some   no batch is empty and its collections are good; together they are as many as the collections; there is a batch
--   bundled-written                            the pieces are the bytes of the message
--   bundled-length                             of at most 1,000 collections, in at most 64 batches, it is not longer than a message may be
--   list_written, list_length                  the same of the message for a list
use Prim.Native.Nat.{ℕ, zero, suc, ◌≤◌}
use native.Mathlib.Omega.{arith}
use mathlib.Core.Bool.{true}
use mathlib.Core.List.{List, [], ◌∷◌}
use mathlib.Core.Path.{◌≡◌, refl, sym, ◌∙◌}
use lib.ListN.{length, drop, length-take}
use Rattle.laws.specs.Bytes.{Bytes}
use Rattle.laws.specs.Lists.{count, All, concat}
use Rattle.laws.proofs.Counts.{All-map, All-take, All-drop, All-kept, All-gather}
use Rattle.profile.specs.Limits.{most_bytes, most_batches, most_collections}
use Rattle.tree.specs.Form.{message}
use Rattle.tree.specs.Pain008.{declaration}
use Rattle.bundle.specs.Bundle.{Decides, cut, pieces, having, all_terms, bundle, need}
use Rattle.bundle.proofs.Batches.{batches-same, batches-number}
use Rattle.collections.specs.Listed.{same_terms, Collection, Creditor, creditor, listed}
use Rattle.collections.specs.Good.{GoodCollection, GoodCreditor}
use Rattle.written.specs.Written.{message_of, batches_for, written}
use Rattle.written.specs.Pieces.{message_bytes}
use Rattle.written.proofs.Clean.{Clean}
use Rattle.written.proofs.Texts.{good-clean, good_creditor_clean}
use Rattle.written.proofs.Printed.{pieces-written}
use Rattle.written.proofs.Lengths.{message-length}

-- ─── the batches ───

module _ {A : Type 0} (P : A → Type 0) where
  -- a batch that is not empty, and of whose collections P holds
  abbrev Full : List A → Type 0
  Full b = (1 ≤ length b) × All P b

  cut_full : (n c : ℕ) (xs : List A) → 1 ≤ c → All P xs → All Full (cut n c xs)
  cut_full zero c xs l h = tt
  cut_full (suc n) c [] l h = tt
  cut_full (suc n) c (x ∷ xs) l h =
      ((omega (arith, length-take c (x ∷ xs)), All-take P c (x ∷ xs) h), cut_full n c (drop c (x ∷ xs)) l (All-drop P c (x ∷ xs) h))

all-count : {A : Type 0} (xs : List A) → count (λ x. true) xs ≡ length xs
all-count [] = refl
all-count (x ∷ xs) = omega (arith, all-count xs)

abbrev pub batches_of : ℕ → List Collection → List (List Collection)
batches_of c xs = bundle (λ x. x.terms) same_terms c xs

module _ (d : Decides same_terms) (c : ℕ) (xs : List Collection) (l : 1 ≤ c) where
  pub batches-hold : length (concat (batches_of c xs)) ≡ length xs
  batches-hold = sym (all-count (concat (batches_of c xs))) ∙ (batches-same (λ x. x.terms) same_terms d c xs l (λ x. true) ∙ all-count xs)

  pub batches-some : 1 ≤ length xs → 1 ≤ length (batches_of c xs)
  batches-some s = go (batches_of c xs) batches-hold
    where
      go : (bs : List (List Collection)) → length (concat bs) ≡ length xs → 1 ≤ length bs
      go [] e = omega arith
      go (b ∷ bs) e = omega arith

  module _ (h : All GoodCollection xs) where
    pub batches-good : All (λ b. (1 ≤ length b) × All GoodCollection b) (batches_of c xs)
    batches-good = All-gather (Full GoodCollection) (λ k. pieces c (having (λ x. x.terms) same_terms k xs)) (all_terms (λ x. x.terms) same_terms xs)
        (λ k. cut_full GoodCollection (length (having (λ x. x.terms) same_terms k xs)) c (having (λ x. x.terms) same_terms k xs) l (All-kept GoodCollection (λ x. same_terms k x.terms) xs h))

    module _ (cr : Creditor) (k : GoodCreditor cr) where
      pub bundled-written : 1 ≤ length xs → message_bytes cr (batches_of c xs) ≡ message declaration (message_of cr (batches_of c xs))
      bundled-written s = pieces-written cr (batches_of c xs) (good_creditor_clean cr k) (batches-some s)
          (All-map (Full GoodCollection) (Full Clean) (batches_of c xs) (λ b g. (g.0, All-map GoodCollection Clean b good-clean g.1)) batches-good)

      pub bundled-length : length xs ≤ most_collections → need (λ x. x.terms) same_terms c xs ≤ most_batches → length (message_bytes cr (batches_of c xs)) ≤ most_bytes
      bundled-length m n = message-length cr k (batches_of c xs) (All-map (Full GoodCollection) (All GoodCollection) (batches_of c xs) (λ b g. g.1) batches-good)
          (omega (arith, batches-number (λ x. x.terms) same_terms d c xs l)) (omega (arith, batches-hold))

-- ─── the message for a list ───

module _ (d : Decides same_terms) (s : Bytes) (c : ℕ) (l : 1 ≤ c) (k : GoodCreditor (creditor s)) (h : All GoodCollection (listed s)) (n : 1 ≤ length (listed s)) where
  pub list_written : message_bytes (creditor s) (batches_for s c) ≡ written s c
  unfolding written
  list_written = bundled-written d c (listed s) l h (creditor s) k n

  pub list_length : length (listed s) ≤ most_collections → need (λ x. x.terms) same_terms c (listed s) ≤ most_batches → length (written s c) ≤ most_bytes
  list_length m b = rw (← list_written) (bundled-length d c (listed s) l h (creditor s) k m b)
