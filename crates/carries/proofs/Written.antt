-- THE WRITTEN MESSAGE IS ACCEPTED AND CARRIES ITS BATCHES.
--   GoodBatch b            a batch of good collections of one terms, not empty
--   MessageReady cr bs     a good creditor, and from 1 to the profile's batches, which together hold no more collections than a list may
--   written-profile        what the message says is within the profile
--   written-agrees         every count and sum that it declares is the exact one
--   written-accepted       THE MESSAGE IS ACCEPTED
--   written-carries        IT CARRIES ITS BATCHES, collection by collection
use Prim.Native.Nat.{ℕ, suc, ◌+◌, ◌≤◌}
use native.Mathlib.Omega.{arith}
use mathlib.Core.Bool.{false}
use mathlib.Core.List.{List, [], ◌∷◌, ◌++◌, map}
use mathlib.Core.Option.{Option, none, some}
use mathlib.Core.Path.{◌≡◌, refl, ap, ap₂, sym, subst, ◌∙◌}
use lib.Dec.{T}
use lib.ListN.{length, length-map, length-append}
use Rattle.std.specs.Prelude.{Ok}
use Rattle.laws.specs.Bytes.{Bytes}
use Rattle.laws.specs.Lists.{All, concat, gather, number}
use Rattle.laws.specs.Sections.{last_or}
use Rattle.laws.proofs.Below.{each, of-each}
use Rattle.laws.proofs.Tests.{T_false}
use Rattle.laws.proofs.Sections.{length-all}
use Rattle.laws.proofs.Counts.{All-append, All-map}
use Rattle.profile.specs.Limits.{most_bytes, most_batches, most_collections}
use Rattle.put.specs.Numerals.{decimal, euros, batch_id}
use Rattle.text.specs.declared.Rule.TheVariants.{Count, Sum}
use Rattle.text.specs.Rules.{Judged, good, number_told, identifier, count, sum, amount, scheme, sequence, bic, remittance}
use Rattle.tree.specs.Form.{message}
use Rattle.tree.specs.Pain008.{declaration}
use Rattle.tree.specs.Parts as part
use Rattle.promise.specs.Check.{said_by}
use Rattle.promise.specs.Demand2.{AllAgree, InProfile}
use Rattle.collections.specs.Listed.{Collection, Creditor}
use Rattle.collections.specs.Good.{empty_or, GoodTerms, GoodCollection, GoodCreditor}
use Rattle.written.specs.Written.{scheme_word, sequence_word, terms_of, message_of}
use Rattle.written.proofs.Clean.{Clean}
use Rattle.written.proofs.Texts.{good-clean, good_creditor_clean}
use Rattle.written.proofs.Numerals.{count-good, sum-good, amount-good, batch_id_good, scheme-good, sequence-good}
use Rattle.written.proofs.Printed.{pieces-written}
use Rattle.written.proofs.Lengths.{all-concat, cents-most, message-length}
use Rattle.carries.specs.Carried.{carried_by, Accepted}
use Rattle.carries.specs.Contents.{Content, contents, is, all_of, the, collections_in, carried_of, ProfileIn, Agreed, total_cents, BatchAgreed, AgreedIn}
use Rattle.carries.specs.Held.{txt, bank_held, remittance_held, debtor, transaction_held, scheme_held, batch_held, message_held}
use Rattle.carries.proofs.Finds.{carried-contents}
use Rattle.carries.proofs.Exact.{profile-contents, agree-contents}
use Rattle.carries.proofs.Held.{length-number, message-held}
use Rattle.carries.proofs.Among.{each_append, each-gather, without, all_append, all_without}
use Rattle.carries.proofs.Collected.{behind-without, count-found, sum-found, transactions-held, batch-collections, message-batches}

pub record GoodBatch (b : List Collection) : Type 0 where
  pub some : 1 ≤ length b
  pub alike : All (λ x. x.terms ≡ terms_of b) b
  pub good : All GoodCollection b

pub record MessageReady (cr : Creditor) (bs : List (List Collection)) : Type 0 where
  pub creditor : GoodCreditor cr
  pub some : 1 ≤ length bs
  pub few : length bs ≤ most_batches
  pub collections : length (concat bs) ≤ most_collections
  pub batches : All GoodBatch bs

terms-good : (b : List Collection) → 1 ≤ length b → All GoodCollection b → GoodTerms (terms_of b)
terms-good [] s g = absurd (omega arith)
terms-good (x ∷ xs) s g = g.0.terms

goods : (bs : List (List Collection)) → All GoodBatch bs → All (All GoodCollection) bs
goods bs = All-map GoodBatch (All GoodCollection) bs (λ b g. g.good)

-- ─── what it carries ───

module _ (cr : Creditor) where
  collections-of : (n : ℕ) (b : List Collection) → GoodBatch b → collections_in (batch_held cr (n, b)) ≡ b
  collections-of n b g = batch-collections cr n b (terms-good b g.some g.good) g.alike g.good

  batches-of : (n : ℕ) (bs : List (List Collection)) → All GoodBatch bs → map collections_in (map (batch_held cr) (number n bs)) ≡ bs
  batches-of n [] g = refl
  batches-of n (b ∷ bs) g =
      ap₂ {C = List (List Collection)} (λ (x : List Collection) (l : List (List Collection)). x ∷ l) (collections-of n b g.0) (batches-of (suc n) bs g.1)

  held-carries : (bs : List (List Collection)) → All GoodBatch bs → carried_of (message_held cr bs) ≡ bs
  held-carries bs g = ap (map collections_in) (message-batches cr bs) ∙ batches-of 1 bs g

  -- ─── what it declares ───

  agreed : (o : Option Content) (c : Content) (a b : ℕ) → o ≡ some c → b ≡ a → number_told c.judged ≡ a → Agreed o b
  agreed o c a b e f h = rw (e, f) h

  batch-agreed : (n : ℕ) (b : List Collection) → GoodBatch b → length b ≤ most_collections → BatchAgreed (batch_held cr (n, b))
  batch-agreed n b g l = record {
    count = agreed (the part.batch_count (batch_held cr (n, b))) (txt part.batch_count Count (decimal (length b))) (length b) (length (collections_in (batch_held cr (n, b))))
        (count-found cr n b) (ap length (collections-of n b g)) (ap number_told (count-good (length b) (omega arith)));
    sum = agreed (the part.batch_sum (batch_held cr (n, b))) (txt part.batch_sum Sum (euros (total_cents b))) (total_cents b) (total_cents (collections_in (batch_held cr (n, b))))
        (sum-found cr n b) (ap total_cents (collections-of n b g)) (ap number_told (sum-good (total_cents b) (omega (arith, cents-most b g.good))));
  }

  batches-agreed : (n : ℕ) (bs : List (List Collection)) → All GoodBatch bs → length (concat bs) ≤ most_collections → All BatchAgreed (map (batch_held cr) (number n bs))
  batches-agreed n [] g l = tt
  batches-agreed n (b ∷ bs) g l =
      (batch-agreed n b g.0 (omega (arith, length-append b (concat bs))), batches-agreed (suc n) bs g.1 (omega (arith, length-append b (concat bs))))

  -- where no batch has an element of a part, the header's is the one of the message
  header-found : (p : ℕ) → ((q : ℕ × List Collection) → T (each (without p) (batch_held cr q))) → (bs : List (List Collection)) (c : Content)
      → last_or none (c ∷ all_of p (gather (batch_held cr) (number 1 bs))) ≡ some c
  header-found p w bs c =
      ap (λ (cs : List Content). last_or none (c ∷ cs)) (all_without p (gather (batch_held cr) (number 1 bs)) (each-gather (without p) (batch_held cr) (number 1 bs) w))

  held-agreed : (bs : List (List Collection)) → MessageReady cr bs → AgreedIn (message_held cr bs)
  held-agreed bs r =
      let e : carried_of (message_held cr bs) ≡ bs = held-carries bs r.batches in record {
        batches = rw (message-batches cr bs) (batches-agreed 1 bs r.batches r.collections);
        message_count =
            agreed (the part.message_count (message_held cr bs)) (txt part.message_count Count (decimal (length (concat bs)))) (length (concat bs)) (length (concat (carried_of (message_held cr bs))))
            (header-found 1 (λ q. behind-without cr q.0 q.1 1 (omega arith) (omega arith)) bs (txt part.message_count Count (decimal (length (concat bs)))))
            (ap (λ (l : List (List Collection)). length (concat l)) e) (ap number_told (count-good (length (concat bs)) (omega (arith, r.collections))));
        message_sum =
            agreed (the part.message_sum (message_held cr bs)) (txt part.message_sum Sum (euros (total_cents (concat bs)))) (total_cents (concat bs)) (total_cents (concat (carried_of (message_held cr bs))))
            (header-found 2 (λ q. behind-without cr q.0 q.1 2 (omega arith) (omega arith)) bs (txt part.message_sum Sum (euros (total_cents (concat bs)))))
            (ap (λ (l : List (List Collection)). total_cents (concat l)) e)
            (ap number_told (sum-good (total_cents (concat bs)) (omega (arith, r.collections, cents-most (concat bs) (all-concat bs (goods bs r.batches))))));
      }

-- ─── its texts ───

infixr 20 ◌and◌
◌and◌ : {A B : Type 0} → A → B → A × B
a and b = (a, b)

abbrev Fine : List Content → Type 0
Fine cs = All (λ c. T (good c.judged)) cs

told-good : (j : Judged) (n : ℕ) → j ≡ Ok n → T (good j)
told-good j n e = rw e tt

bank-fine : (p : ℕ) (b : Bytes) → T (empty_or bic b) → Fine (bank_held p b)
bank-fine p [] t = tt and tt and tt and tt
bank-fine p (c ∷ b) t = tt and t and tt

remittance-fine : (s : Bytes) → T (empty_or remittance s) → Fine (remittance_held s)
remittance-fine [] t = tt
remittance-fine (c ∷ s) t = tt and t and tt

fine-append : (a b : List Content) → Fine a → Fine b → Fine (a ++ b)
fine-append = All-append (λ c. T (good c.judged))

transaction-fine : (x : Collection) → GoodCollection x → Fine (transaction_held x)
transaction-fine x g =
    tt
    and tt
    and g.end_to_end
    and told-good (amount (euros x.cents)) x.cents (amount-good x.cents g.least g.most)
    and tt
    and tt
    and g.mandate
    and g.signature_date
    and tt
    and fine-append (bank_held part.debtor_bank x.bank) (debtor x.debtor_name x.debtor_account ++ remittance_held x.remittance) (bank-fine part.debtor_bank x.bank g.bank)
    (tt and g.debtor_name and tt and tt and g.debtor_account and remittance-fine x.remittance g.remittance)

transactions-fine : (xs : List Collection) → All GoodCollection xs → Fine (gather transaction_held xs)
transactions-fine [] g = tt
transactions-fine (x ∷ xs) g = fine-append (transaction_held x) (gather transaction_held xs) (transaction-fine x g.0) (transactions-fine xs g.1)

module _ (cr : Creditor) (k : GoodCreditor cr) where
  batch-fine : (n : ℕ) (b : List Collection) → GoodBatch b → length b ≤ most_collections → Fine (batch_held cr (n, b))
  batch-fine n b g l =
      let t : GoodTerms (terms_of b) = terms-good b g.some g.good in
      tt
      and told-good (identifier (batch_id n)) 0 (batch_id_good n)
      and tt
      and tt
      and told-good (count (decimal (length b))) (length b) (count-good (length b) (omega arith))
      and told-good (sum (euros (total_cents b))) (total_cents b) (sum-good (total_cents b) (omega (arith, cents-most b g.good)))
      and tt
      and tt
      and tt
      and tt
      and told-good (scheme (scheme_word (terms_of b).scheme)) (terms_of b).scheme (scheme-good (terms_of b).scheme t.scheme)
      and told-good (sequence (sequence_word (terms_of b).sequence)) (terms_of b).sequence (sequence-good (terms_of b).sequence t.sequence)
      and t.date
      and tt
      and k.name
      and tt
      and tt
      and k.account
      and tt
      and fine-append (bank_held 0 cr.bank ++ scheme_held cr.identifier) (gather transaction_held b)
      (fine-append (bank_held 0 cr.bank) (scheme_held cr.identifier) (bank-fine 0 cr.bank k.bank) (tt and tt and tt and tt and tt and k.identifier and tt and tt and tt))
      (transactions-fine b g.good)

  batches-fine : (n : ℕ) (bs : List (List Collection)) → All GoodBatch bs → length (concat bs) ≤ most_collections → Fine (gather (batch_held cr) (number n bs))
  batches-fine n [] g l = tt
  batches-fine n (b ∷ bs) g l =
      let e : length (b ++ concat bs) ≡ length b + length (concat bs) = length-append b (concat bs) in
      fine-append (batch_held cr (n, b)) (gather (batch_held cr) (number (suc n) bs)) (batch-fine n b g.0 (omega arith)) (batches-fine (suc n) bs g.1 (omega arith))

  held-fine : (bs : List (List Collection)) → MessageReady cr bs → Fine (message_held cr bs)
  held-fine bs r =
      let xs : List Collection = concat bs in
      tt
      and tt
      and tt
      and k.message_id
      and k.creation_time
      and told-good (count (decimal (length xs))) (length xs) (count-good (length xs) (omega (arith, r.collections)))
      and told-good (sum (euros (total_cents xs))) (total_cents xs) (sum-good (total_cents xs) (omega (arith, r.collections, cents-most xs (all-concat bs (goods bs r.batches)))))
      and tt
      and k.initiating_name
      and batches-fine 1 bs r.batches r.collections

-- ─── its batches and transactions ───

module _ (cr : Creditor) where
  batches-count : (bs : List (List Collection)) → length (all_of part.batch (message_held cr bs)) ≡ length bs
  batches-count bs =
      length-all (λ c. c.part) part.batch (message_held cr bs) ∙ ap length (message-batches cr bs) ∙ length-map (number 1 bs) (batch_held cr) ∙ length-number 1 bs

  transactions_in : (n : ℕ) (b : List Collection) → length (all_of part.transaction (batch_held cr (n, b))) ≡ length b
  transactions_in n b = length-all (λ c. c.part) part.transaction (batch_held cr (n, b)) ∙ ap length (transactions-held cr n b) ∙ length-map b transaction_held

  transactions-count : (n : ℕ) (bs : List (List Collection)) → length (all_of part.transaction (gather (batch_held cr) (number n bs))) ≡ length (concat bs)
  transactions-count n [] = refl
  transactions-count n (b ∷ bs) =
      ap length (all_append part.transaction (batch_held cr (n, b)) (gather (batch_held cr) (number (suc n) bs)))
      ∙ length-append (all_of part.transaction (batch_held cr (n, b))) (all_of part.transaction (gather (batch_held cr) (number (suc n) bs)))
      ∙ ap₂ (λ (x y : ℕ). x + y) (transactions_in n b) (transactions-count (suc n) bs)
      ∙ sym (length-append b (concat bs))

  -- no element is an address
  bank-plain : (b : Bytes) → T (each (without part.address) (bank_held part.debtor_bank b))
  bank-plain [] = tt
  bank-plain (c ∷ b) = tt

  creditor_bank_plain : (b : Bytes) → T (each (without part.address) (bank_held 0 b))
  creditor_bank_plain [] = tt
  creditor_bank_plain (c ∷ b) = tt

  remittance-plain : (s : Bytes) → T (each (without part.address) (remittance_held s))
  remittance-plain [] = tt
  remittance-plain (c ∷ s) = tt

  transaction-plain : (x : Collection) → T (each (without part.address) (transaction_held x))
  transaction-plain x =
      each_append (without part.address) (bank_held part.debtor_bank x.bank) (debtor x.debtor_name x.debtor_account ++ remittance_held x.remittance) (bank-plain x.bank) (remittance-plain x.remittance)

  batch-plain : (q : ℕ × List Collection) → T (each (without part.address) (batch_held cr q))
  batch-plain q =
      each_append (without part.address) (bank_held 0 cr.bank ++ scheme_held cr.identifier) (gather transaction_held q.1)
      (each_append (without part.address) (bank_held 0 cr.bank) (scheme_held cr.identifier) (creditor_bank_plain cr.bank) tt)
      (each-gather (without part.address) transaction_held q.1 transaction-plain)

  held_plain : (bs : List (List Collection)) → T (each (without part.address) (message_held cr bs))
  held_plain bs = each-gather (without part.address) (batch_held cr) (number 1 bs) batch-plain

  held-profile : (bs : List (List Collection)) → MessageReady cr bs → ProfileIn (message_held cr bs)
  held-profile bs r = record {
    batches = rw (batches-count bs) r.few;
    transactions = omega (arith, transactions-count 1 bs, r.collections);
    texts = held-fine cr r.creditor bs r;
    addresses = of-each (without part.address) (λ c. is part.address c ≡ false) (λ c. T_false (is part.address c)) (message_held cr bs) (held_plain bs);
  }

  -- ─── the theorems ───

  module _ (bs : List (List Collection)) (r : MessageReady cr bs) where
    cleans : All (λ b. (1 ≤ length b) × All Clean b) bs
    cleans = All-map GoodBatch (λ b. (1 ≤ length b) × All Clean b) bs (λ b g. (g.some, All-map GoodCollection Clean b good-clean g.good)) r.batches

    held : contents (message_of cr bs).body [] ≡ message_held cr bs
    held = message-held cr (good_creditor_clean cr r.creditor) bs r.some cleans

    pub written-profile : InProfile (said_by (message_of cr bs))
    written-profile = profile-contents (message_of cr bs) (rw held (held-profile bs r))

    pub written-agrees : AllAgree (said_by (message_of cr bs))
    written-agrees = agree-contents (message_of cr bs) (rw held (held-agreed cr bs r))

    short : length (message declaration (message_of cr bs)) ≤ most_bytes
    short = subst (λ (l : Bytes). length l ≤ most_bytes) (pieces-written cr bs (good_creditor_clean cr r.creditor) r.some cleans) (message-length cr r.creditor bs (goods bs r.batches) r.few r.collections)

    pub written-accepted : Accepted (message_of cr bs)
    written-accepted = record { belongs = record { short = short; bytes = refl; profile = written-profile }; agree = written-agrees }

    pub written-carries : carried_by (message_of cr bs) ≡ bs
    written-carries = carried-contents (message_of cr bs) ∙ ap carried_of held ∙ held-carries cr bs r.batches
