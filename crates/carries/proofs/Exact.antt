-- THE EXACT COUNTS AND CENTS OF A MESSAGE ARE THOSE OF THE COLLECTIONS THAT IT CARRIES; and a message is accepted by the contents of its tree.
--   count-carried, sum-carried       of a batch
--   counts-carried, sums-carried     of all batches
--   totals-carried                   the totals of a message are those of its collections
--   profile-contents                 the contents are within the profile: so is what the message says
--   agree-contents                   every declared count and sum is that of the collections: all agree
use Prim.Native.Nat.{ℕ, ◌+◌}
use mathlib.Core.Bool.{false}
use mathlib.Core.List.{List, [], ◌∷◌, map}
use mathlib.Core.Option.{Option, none, some}
use mathlib.Core.Path.{◌≡◌, refl, ap, ap₂, sym, ◌∙◌}
use lib.Dec.{T}
use lib.ListN.{length, length-map, length-append}
use Rattle.laws.specs.Bytes.{Bytes}
use Rattle.laws.specs.Lists.{total, All, concat, gather}
use Rattle.laws.proofs.Counts.{total-append, All-append}
use Rattle.laws.proofs.Sections.{all-before, all-parts, the-none}
use Rattle.profile.specs.declared.Totals.{Totals}
use Rattle.text.specs.Rules.{good}
use Rattle.tree.specs.Form.{Message, message}
use Rattle.tree.specs.Pain008.{document, declaration}
use Rattle.tree.specs.Parts as part
use Rattle.message.specs.declared.Told.{Told}
use Rattle.message.specs.Message as said
use Rattle.message.specs.Addresses.{parties_in, parties_of, good_address}
use Rattle.message.specs.Verdict.{totals_of}
use Rattle.promise.specs.Check.{said_by}
use Rattle.promise.specs.Demand2.{Agrees, AllAgree, InProfile}
use Rattle.collections.specs.Listed.{Terms, Collection}
use Rattle.carries.specs.Carried.{terms_from, collection_from, carried_in, carried_by}
use Rattle.carries.specs.Contents.{contents, content_of, is, all_of, the, carried_of, collections_in, ProfileIn, Agreed, total_cents, BatchAgreed, AgreedIn}
use Rattle.carries.proofs.Fewest.{carried-batches}
use Rattle.carries.proofs.Said.{said-contents}
use Rattle.carries.proofs.Finds.{seen, seen_if, all_seen, the_seen, parts_seen, in_seen, carried-seen}

module _ (s : Bytes) where
  -- ─── counts and cents ───

  pub count-carried : (p : List Told) → length (carried_in s p) ≡ said.exact_count (said.batch_of p)
  count-carried p =
      length-map (said.parts part.transaction p) (collection_from s (terms_from s p)) ∙ sym (length-map (said.parts part.transaction p) said.transaction_of)

  cents-of : (k : Terms) (ps : List (List Told)) → total_cents (map (collection_from s k) ps) ≡ total said.cents_of (map said.transaction_of ps)
  cents-of k [] = refl
  cents-of k (p ∷ ps) = ap (λ (n : ℕ). said.worth_of (said.the part.amount p) + n) (cents-of k ps)

  pub sum-carried : (p : List Told) → total_cents (carried_in s p) ≡ said.exact_sum (said.batch_of p)
  sum-carried p = cents-of (terms_from s p) (said.parts part.transaction p)

  pub counts-carried : (ps : List (List Told)) → length (concat (map (carried_in s) ps)) ≡ total said.exact_count (map said.batch_of ps)
  counts-carried [] = refl
  counts-carried (p ∷ ps) = length-append (carried_in s p) (concat (map (carried_in s) ps)) ∙ ap₂ (λ (a b : ℕ). a + b) (count-carried p) (counts-carried ps)

  pub sums-carried : (ps : List (List Told)) → total_cents (concat (map (carried_in s) ps)) ≡ total said.exact_sum (map said.batch_of ps)
  sums-carried [] = refl
  sums-carried (p ∷ ps) = total-append (λ x. x.cents) (carried_in s p) (concat (map (carried_in s) ps)) ∙ ap₂ (λ (a b : ℕ). a + b) (sum-carried p) (sums-carried ps)

  -- ─── the profile ───

  length-all : (n : ℕ) (ts : List Told) → length (said.all_of n ts) ≡ length (all_of n (seen s ts))
  length-all n ts = sym (length-map (said.all_of n ts) (content_of s)) ∙ ap length (all_seen s n ts)

  texts-seen : (ts : List Told) → All (λ t. T (good t.judged)) (seen s ts) → All (λ t. T (good t.judged)) ts
  texts-seen [] h = tt
  texts-seen (t ∷ ts) h = (h.0, texts-seen ts h.1)

  -- without an address no party has one
  no_addresses : (ts : List Told) → All (λ t. said.is part.address t ≡ false) ts → All (λ x. T (good_address x)) (parties_of ts)
  no_addresses ts h = in_batches (said.parts part.batch ts) (all-parts (λ t. t.part) part.batch (λ t. said.is part.address t ≡ false) ts h)
    where
      parties : (d : ℕ) (qs : List (List Told)) → All (All (λ t. said.is part.address t ≡ false)) qs → All (λ x. T (good_address x)) (map (λ q. record { date = d; said = q }) qs)
      parties d [] h = tt
      parties d (q ∷ qs) h = (rw (the-none (λ t. t.part) part.address q h.0) tt, parties d qs h.1)

      in_batches : (ps : List (List Told)) → All (All (λ t. said.is part.address t ≡ false)) ps → All (λ x. T (good_address x)) (gather parties_in ps)
      in_batches [] h = tt
      in_batches (p ∷ ps) h =
          All-append (λ x. T (good_address x)) (parties_in p) (gather parties_in ps)
          (parties (said.worth_of (said.the part.collection_date p)) (said.before part.transaction p ∷ said.parts part.transaction p)
          (all-before (λ t. t.part) part.transaction (λ t. said.is part.address t ≡ false) p h.0, all-parts (λ t. t.part) part.transaction (λ t. said.is part.address t ≡ false) p h.0))
          (in_batches ps h.1)

  none_seen : (ts : List Told) → All (λ t. is part.address t ≡ false) (seen s ts) → All (λ t. said.is part.address t ≡ false) ts
  none_seen [] h = tt
  none_seen (t ∷ ts) h = (h.0, none_seen ts h.1)

  profile-seen : (ts : List Told) → ProfileIn (seen s ts) → InProfile ts
  profile-seen ts h = record {
    batches = rw (length-all part.batch ts) h.batches;
    transactions = rw (length-all part.transaction ts) h.transactions;
    texts = texts-seen ts h.texts;
    addresses = no_addresses ts (none_seen ts h.addresses);
  }

  -- ─── what is declared ───

  agrees_if : (o : Option Told) (n : ℕ) → Agreed (seen_if s o) n → Agrees o n
  agrees_if none n h = tt
  agrees_if (some t) n h = h

  agrees-seen : (n : ℕ) (ts : List Told) (a b : ℕ) → a ≡ b → Agreed (the n (seen s ts)) a → Agrees (said.the n ts) b
  agrees-seen n ts a b e h = agrees_if (said.the n ts) b (rw (the_seen s n ts, ← e) h)

  batches-agree : (ps : List (List Told)) → All BatchAgreed (map (seen s) ps)
      → All (λ b. Agrees b.declared_count (said.exact_count b) × Agrees b.declared_sum (said.exact_sum b)) (map said.batch_of ps)
  batches-agree [] h = tt
  batches-agree (p ∷ ps) h = (
    (
      agrees-seen part.batch_count p (length (collections_in (seen s p))) (said.exact_count (said.batch_of p)) (ap length (sym (in_seen s p)) ∙ count-carried p) h.0.count,
      agrees-seen part.batch_sum p (total_cents (collections_in (seen s p))) (said.exact_sum (said.batch_of p)) (ap total_cents (sym (in_seen s p)) ∙ sum-carried p) h.0.sum,
    ),
    batches-agree ps h.1,
  )

  agree-seen : (ts : List Told) → AgreedIn (seen s ts) → AllAgree ts
  agree-seen ts h = record {
    batches = batches-agree (said.parts part.batch ts) (rw (parts_seen s part.batch ts) h.batches);
    message_count =
        agrees-seen part.message_count ts (length (concat (carried_of (seen s ts)))) (total said.exact_count (said.batches_of ts))
        (ap (λ (l : List (List Collection)). length (concat l)) (sym (carried-seen s ts)) ∙ counts-carried (said.parts part.batch ts)) h.message_count;
    message_sum =
        agrees-seen part.message_sum ts (total_cents (concat (carried_of (seen s ts)))) (total said.exact_sum (said.batches_of ts))
        (ap (λ (l : List (List Collection)). total_cents (concat l)) (sym (carried-seen s ts)) ∙ sums-carried (said.parts part.batch ts)) h.message_sum;
  }

-- ─── messages ───

abbrev pub totals_in : List (List Collection) → Totals
totals_in bs = record { batches = length bs; transactions = record { 0 = length (concat bs) }; cents = record { 0 = total_cents (concat bs) } }

pub same-totals : (a a' b b' c c' : ℕ) → a ≡ a' → b ≡ b' → c ≡ c'
    → ◌≡◌ {A = Totals} (record { batches = a; transactions = record { 0 = b }; cents = record { 0 = c } }) (record { batches = a'; transactions = record { 0 = b' }; cents = record { 0 = c' } })
same-totals a a' b b' c c' e f g = cc

pub totals-carried : (m : Message document) → totals_of (said.batches_of (said_by m)) ≡ totals_in (carried_by m)
unfolding carried_by
totals-carried m =
    let s = message declaration m in
    let ps = said.parts part.batch (said_by m) in
    sym (
    same-totals (length (carried_by m)) (length (said.batches_of (said_by m))) (length (concat (carried_by m))) (total said.exact_count (said.batches_of (said_by m))) (total_cents (concat (carried_by m)))
    (total said.exact_sum (said.batches_of (said_by m))) (carried-batches m) (counts-carried s ps) (sums-carried s ps))

pub profile-contents : (m : Message document) → ProfileIn (contents m.body []) → InProfile (said_by m)
profile-contents m h = profile-seen (message declaration m) (said_by m) (rw (said-contents m) h)

pub agree-contents : (m : Message document) → AgreedIn (contents m.body []) → AllAgree (said_by m)
agree-contents m h = agree-seen (message declaration m) (said_by m) (rw (said-contents m) h)
