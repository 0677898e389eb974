-- DEMAND 3, of good collections xs and a good creditor: as many collections as a list may have, at a ceiling from 1.
--   bundle-ready          the batches of `bundle` are ready to be written, where no more are needed than the profile has
--   message-carried       their message carries these batches
--   message-carries       their message is accepted and carries the collections, with no batch above the ceiling
--   message-fewest        no accepted message that carries the collections with no batch above the ceiling has fewer batches
--   refused-exactly       more batches are needed than the profile has exactly when no such message exists
use Prim.Native.Nat.{ℕ, zero, suc, ◌≤◌, ◌<◌}
use native.Mathlib.Decide.{dec_le}
use native.Mathlib.Omega.{arith}
use mathlib.Core.Bool.{Bool}
use mathlib.Core.List.{List, [], ◌∷◌}
use mathlib.Core.Path.{◌≡◌, sym, subst⁻¹, ◌∙◌}
use mathlib.Core.Logic.{◌↔◌}
use lib.ListN.{length, drop}
use Rattle.laws.specs.Lists.{All, concat}
use Rattle.laws.proofs.Counts.{All-kept, All-map, All-take, All-drop, All-gather}
use Rattle.profile.specs.Limits.{most_batches, most_collections}
use Rattle.tree.specs.Form.{Message}
use Rattle.tree.specs.Pain008.{document}
use Rattle.bundle.specs.Bundle.{Same, Fits, cut, pieces, having, all_terms, bundle, need}
use Rattle.bundle.proofs.Batches.{batches-fit, batches-same, batches-number}
use Rattle.collections.specs.Listed.{Terms, same_terms, Collection, Creditor}
use Rattle.collections.specs.Good.{GoodCollection, GoodCreditor}
use Rattle.collections.proofs.Terms.{terms_decide}
use Rattle.written.specs.Written.{terms_of, message_of}
use Rattle.carries.specs.Carried.{carried_by, CarriesList}
use Rattle.carries.proofs.Sums.{same_length}
use Rattle.carries.proofs.Fewest.{fewest-batches, none_exists}
use Rattle.carries.proofs.Written.{GoodBatch, MessageReady, written-accepted, written-carries}

-- ─── what holds of each collection holds in each batch ───

module _ {X : Type 0} (P : X → Type 0) where
  cut_all : (n c : ℕ) (xs : List X) → All P xs → All (All P) (cut n c xs)
  cut_all zero c xs a = tt
  cut_all (suc n) c [] a = tt
  cut_all (suc n) c (x ∷ xs) a = (All-take P c (x ∷ xs) a, cut_all n c (drop c (x ∷ xs)) (All-drop P c (x ∷ xs) a))

  bundle-all : {K : Type 0} (terms : X → K) (eq : K → K → Bool) (c : ℕ) (xs : List X) → All P xs → All (All P) (bundle terms eq c xs)
  bundle-all terms eq c xs a =
      All-gather (All P) (λ k. pieces c (having terms eq k xs)) (all_terms terms eq xs)
      (λ k. cut_all (length (having terms eq k xs)) c (having terms eq k xs) (All-kept P (λ x. eq k (terms x)) xs a))

module _ {A : Type 0} where
  concat-some : (bs : List (List A)) → 1 ≤ length (concat bs) → 1 ≤ length bs
  concat-some [] h = h
  concat-some (b ∷ bs) h = omega arith

  both : (P Q : A → Type 0) (xs : List A) → All P xs → All Q xs → All (λ x. P x × Q x) xs
  both P Q [] a b = tt
  both P Q (x ∷ xs) a b = ((a.0, b.0), both P Q xs a.1 b.1)

-- ─── the batches ───

abbrev terms_in : Collection → Terms
terms_in x = x.terms

first-own : (b : List Collection) (k : Terms) → 1 ≤ length b → All (λ x. x.terms ≡ k) b → terms_of b ≡ k
first-own [] k h a = absurd (omega arith)
first-own (x ∷ xs) k h a = a.0

good-batch : (c : ℕ) (b : List Collection) → ((1 ≤ length b) × Fits terms_in c b) × All GoodCollection b → GoodBatch b
good-batch c b h =
    let f : Fits terms_in c b = h.0.1 in record {
      some = h.0.0;
      alike = All-map (λ x. x.terms ≡ f.own) (λ x. x.terms ≡ terms_of b) b (λ x e. e ∙ sym (first-own b f.own h.0.0 f.alike)) f.alike;
      good = h.1;
    }

module _ (c : ℕ) (xs : List Collection) (h : 1 ≤ c) where
  abbrev batches : List (List Collection)
  batches = bundle terms_in same_terms c xs

  -- no fewer in any message; the collections need not be good
  pub message-fewest : (m : Message document) → CarriesList m c xs → length batches ≤ length (carried_by m)
  message-fewest m l = rw (batches-number terms_in same_terms terms_decide c xs h) (fewest-batches m c xs h l)

  module _ (cr : Creditor) (k : GoodCreditor cr) (g : All GoodCollection xs) (some : 1 ≤ length xs) (most : length xs ≤ most_collections) where
    pub bundle-ready : need terms_in same_terms c xs ≤ most_batches → MessageReady cr batches
    bundle-ready few =
        let e : length (concat batches) ≡ length xs = same_length (concat batches) xs (batches-same terms_in same_terms terms_decide c xs h) in record {
          creditor = k;
          some = concat-some batches (omega arith);
          few = rw (batches-number terms_in same_terms terms_decide c xs h) few;
          collections = omega arith;
          batches = All-map (λ b. ((1 ≤ length b) × Fits terms_in c b) × All GoodCollection b) GoodBatch batches (good-batch c)
              (both (λ b. (1 ≤ length b) × Fits terms_in c b) (All GoodCollection) batches (batches-fit terms_in same_terms terms_decide c xs h)
              (bundle-all GoodCollection terms_in same_terms c xs g));
        }

    pub message-carried : need terms_in same_terms c xs ≤ most_batches → carried_by (message_of cr batches) ≡ batches
    message-carried few = written-carries cr batches (bundle-ready few)

    pub message-carries : need terms_in same_terms c xs ≤ most_batches → CarriesList (message_of cr batches) c xs
    message-carries few =
        let r : MessageReady cr batches = bundle-ready few in
        let e : carried_by (message_of cr batches) ≡ batches = message-carried few in record {
          accepted = written-accepted cr batches r;
          same = subst⁻¹ (λ (bs : List (List Collection)). Same (concat bs) xs) e (batches-same terms_in same_terms terms_decide c xs h);
          within = subst⁻¹ (λ (bs : List (List Collection)). All (λ b. length b ≤ c) bs) e
              (All-map (λ b. (1 ≤ length b) × Fits terms_in c b) (λ b. length b ≤ c) batches (λ b f. f.1.size) (batches-fit terms_in same_terms terms_decide c xs h));
        }

    pub refused-exactly : (most_batches < need terms_in same_terms c xs) ↔ ((m : Message document) → CarriesList m c xs → ⊥)
    refused-exactly = (none_exists c xs h, λ f. go (dec_le (need terms_in same_terms c xs) most_batches) f)
      where
        go : Dec (need terms_in same_terms c xs ≤ most_batches) → ((m : Message document) → CarriesList m c xs → ⊥) → most_batches < need terms_in same_terms c xs
        go (yes l) f = absurd (f (message_of cr batches) (message-carries l))
        go (no l) f = omega arith
