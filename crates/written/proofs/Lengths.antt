-- THE LENGTH OF THE WRITTEN MESSAGE for a good creditor and good collections, which a message may have.
--   transaction-length, head-length, batch-length   a transaction has at most 700 bytes, a batch at most 705 and its transactions
--   all-concat, cents-most                          the collections of all batches are good; what good collections are worth at most
--   message-length                                  THE BOUND: of at most 1,000 collections in at most 64 batches it is a message's longest at most
use Prim.Native.Nat.{ℕ, zero, suc, ◌+◌, ◌*◌, ◌^◌, ◌≤◌, ◌<◌}
use native.Mathlib.Omega.{arith}
use mathlib.Core.List.{List, [], ◌∷◌, ◌++◌}
use mathlib.Core.Path.{◌≡◌}
use lib.ListN.{length, length-append}
use Rattle.laws.specs.Bytes.{Bytes}
use Rattle.laws.specs.Lists.{total, All, concat, gather}
use Rattle.laws.proofs.Counts.{All-append}
use Rattle.profile.specs.Limits.{most_bytes, most_batches, most_cents, most_collections}
use Rattle.collections.specs.Listed.{Collection, Creditor}
use Rattle.collections.specs.Good.{GoodCollection, GoodCreditor}
use Rattle.written.specs.Written.{scheme_word, sequence_word, terms_of}
use Rattle.written.specs.Pieces.{bank_bytes, remittance_bytes, transaction_bytes, head_bytes, batch_bytes, batches_bytes, opening_bytes, message_bytes}
use Rattle.written.proofs.Texts.{identifier-short, name-short, date-short, time-short, iban-short, creditor_identifier_short, bank-short, remitted_short}
use Rattle.written.proofs.Numerals.{decimal-length, euros-length}

-- ─── a transaction ───

bank-length : (s : Bytes) → length s ≤ 11 → length (bank_bytes s) ≤ 58
bank-length [] h = omega arith
bank-length (c ∷ s) h = simp length-append (omega arith)

remittance-length : (s : Bytes) → length s ≤ 140 → length (remittance_bytes s) ≤ 172
remittance-length [] h = omega arith
remittance-length (c ∷ s) h = simp length-append (omega arith)

pub transaction-length : (x : Collection) → GoodCollection x → length (transaction_bytes x) ≤ 700
unfolding transaction_bytes
transaction-length x h =
    simp length-append (omega (
      arith,
      (identifier-short x.end_to_end h.end_to_end).most,
      simp length-append at (euros-length x.cents 8 (omega (arith, h.most))),
      (identifier-short x.mandate h.mandate).most,
      (date-short x.signature_date h.signature_date).most,
      bank-length x.bank (bank-short x.bank h.bank).most,
      (name-short x.debtor_name h.debtor_name).most,
      (iban-short x.debtor_account h.debtor_account).most,
      remittance-length x.remittance (remitted_short x.remittance h.remittance).most,
    ))

-- ─── a batch ───

transactions-length : (xs : List Collection) → All GoodCollection xs → length (gather transaction_bytes xs) ≤ length xs * 700
transactions-length [] h = omega arith
transactions-length (x ∷ xs) h = omega (arith, length-append (transaction_bytes x) (gather transaction_bytes xs), transaction-length x h.0, transactions-length xs h.1)

pub all-concat : (bs : List (List Collection)) → All (All GoodCollection) bs → All GoodCollection (concat bs)
all-concat [] h = tt
all-concat (b ∷ bs) h = All-append GoodCollection b (concat bs) h.0 (all-concat bs h.1)

pub cents-most : (xs : List Collection) → All GoodCollection xs → total (λ x. x.cents) xs ≤ length xs * most_cents
cents-most [] h = omega arith
cents-most (x ∷ xs) h = omega (arith, h.0.most, cents-most xs h.1)

scheme-length : (n : ℕ) → length (scheme_word n) ≤ 4
scheme-length zero = omega arith
scheme-length (suc zero) = omega arith
scheme-length (suc (suc n)) = omega arith

sequence-length : (n : ℕ) → length (sequence_word n) ≤ 4
sequence-length zero = omega arith
sequence-length (suc zero) = omega arith
sequence-length (suc (suc zero)) = omega arith
sequence-length (suc (suc (suc zero))) = omega arith
sequence-length (suc (suc (suc (suc n)))) = omega arith

date-length : (xs : List Collection) → All GoodCollection xs → length (terms_of xs).date ≤ 10
date-length [] h = omega arith
date-length (x ∷ xs) h = (date-short x.terms.date h.0.terms.date).most

module _ (cr : Creditor) (k : GoodCreditor cr) where
  pub head-length : (n : ℕ) (xs : List Collection) → All GoodCollection xs → length xs ≤ most_collections → length (head_bytes cr n xs) ≤ 696
  unfolding head_bytes
  head-length n xs h l =
      simp length-append (omega (
        arith,
        decimal-length (length xs) 3 (omega arith),
        simp length-append at (euros-length (total (λ x. x.cents) xs) 11 (omega (arith, cents-most xs h))),
        scheme-length (terms_of xs).scheme,
        sequence-length (terms_of xs).sequence,
        date-length xs h,
        (name-short cr.name k.name).most,
        (iban-short cr.account k.account).most,
        bank-length cr.bank (bank-short cr.bank k.bank).most,
        (creditor_identifier_short cr.identifier k.identifier).most,
      ))

  pub batch-length : (n : ℕ) (xs : List Collection) → All GoodCollection xs → length xs ≤ most_collections → length (batch_bytes cr n xs) ≤ 705 + length xs * 700
  unfolding batch_bytes
  batch-length n xs h l = simp length-append (omega (arith, head-length n xs h l, transactions-length xs h))

  batches-length : (n : ℕ) (bs : List (List Collection)) → All (All GoodCollection) bs → length (concat bs) ≤ most_collections → length (batches_bytes cr n bs) ≤ length bs * 705 + length (concat bs) * 700
  batches-length n [] h l = omega arith
  batches-length n (b ∷ bs) h l =
      let e : length (b ++ concat bs) ≡ length b + length (concat bs) = length-append b (concat bs) in
      omega (arith, length-append (batch_bytes cr n b) (batches_bytes cr (suc n) bs), batch-length n b h.0 (omega arith), batches-length (suc n) bs h.1 (omega arith))

  -- ─── the message ───

  opening-length : (n sum : ℕ) → n ≤ most_collections → sum < 10 ^ 14 → length (opening_bytes cr n sum) ≤ 384
  unfolding opening_bytes
  opening-length n sum l h =
      simp length-append (omega (
        arith,
        (identifier-short cr.message_id k.message_id).most,
        (time-short cr.creation_time k.creation_time).most,
        decimal-length n 3 (omega arith),
        simp length-append at (euros-length sum 11 h),
        (name-short cr.initiating_name k.initiating_name).most,
      ))

  pub message-length : (bs : List (List Collection)) → All (All GoodCollection) bs → length bs ≤ most_batches → length (concat bs) ≤ most_collections → length (message_bytes cr bs) ≤ most_bytes
  unfolding message_bytes
  message-length bs h m l = simp length-append (omega (arith, opening-length (length (concat bs)) (total (λ x. x.cents) (concat bs)) l (omega (arith, cents-most (concat bs) (all-concat bs h))), batches-length 1 bs h l))
