-- WHAT THE CONTENTS OF THE WRITTEN MESSAGE CARRY: its batches, with every collection as it was.
--   collection_held            a good collection is read back from its transaction
--   behind-without             after a batch's head no element is of a part below that of a transaction
--   count-found, sum-found     the declarations of a batch
--   transactions-held          the transactions of a batch
--   batch-collections          the collections of a batch: its terms are read back, and each collection
--   batch-piece                a batch is the elements from its first up to the next batch
--   message-batches            the batches of the message
use Prim.Native.Nat.{ℕ, ◌≤◌, ◌<◌}
use native.Mathlib.Omega.{arith}
use mathlib.Core.List.{List, [], ◌∷◌, ◌++◌, map}
use mathlib.Core.Option.{none, some}
use mathlib.Core.Path.{◌≡◌, refl, ap, ap₂, sym, ◌∙◌}
use lib.Dec.{T}
use lib.ListN.{length, drop}
use Rattle.laws.specs.Bytes.{Bytes}
use Rattle.laws.specs.Lists.{All, gather, number}
use Rattle.laws.specs.Sections.{last_or}
use Rattle.laws.proofs.Below.{each}
use Rattle.put.specs.Numerals.{decimal, euros}
use Rattle.text.specs.declared.Rule.TheVariants.{Amount, Count, Sum, Date, Scheme, Sequence}
use Rattle.text.specs.Rules.{number_told, judged}
use Rattle.tree.specs.Parts as part
use Rattle.collections.specs.Listed.{Terms, Collection, Creditor}
use Rattle.collections.specs.Good.{GoodTerms, GoodCollection}
use Rattle.written.specs.Written.{scheme_word, sequence_word, terms_of}
use Rattle.written.proofs.Numerals.{amount-good, scheme-good, sequence-good}
use Rattle.carries.specs.Contents.{Content, parts, all_of, the, worth, text_of, terms_in, collection_in, collections_in, total_cents}
use Rattle.carries.specs.Held.{box, txt, bank_held, remittance_held, debtor, transaction_held, scheme_held, head_held, batch_held, message_held}
use Rattle.carries.proofs.Among.{without, above, each_append, each-gather, above-without, all_without, parts-without, Piece, parts-gather}

-- ─── a transaction ───

module _ (x : Collection) where
  -- after its opening, of no part up to that of a transaction
  transaction-rest : T (each (above 10) (drop 1 (transaction_held x)))
  transaction-rest = go x.bank x.remittance
    where
      go : (b r : Bytes) → T (each (above 10) (bank_held part.debtor_bank b ++ (debtor x.debtor_name x.debtor_account ++ remittance_held r)))
      go [] [] = tt
      go [] (d ∷ r) = tt
      go (c ∷ b) [] = tt
      go (c ∷ b) (d ∷ r) = tt

  transaction-piece : Piece part.transaction (transaction_held x)
  transaction-piece = record {
    first = box part.transaction;
    rest = drop 1 (transaction_held x);
    whole = refl;
    plays = tt;
    no_other = above-without 10 9 (omega arith) (omega arith) (drop 1 (transaction_held x)) transaction-rest;
  }

  transaction-without : (n : ℕ) → 1 ≤ n → n < 9 → T (each (without n) (transaction_held x))
  transaction-without n h l =
      each_append (without n) (box part.transaction ∷ []) (drop 1 (transaction_held x)) (above-without 9 n h l (box part.transaction ∷ []) tt)
      (above-without 10 n h (omega arith) (drop 1 (transaction_held x)) transaction-rest)

  -- x with these cents, bank and remittance
  abbrev made : ℕ → Bytes → Bytes → Collection
  made c b r = record {
    terms = x.terms;
    cents = c;
    end_to_end = x.end_to_end;
    mandate = x.mandate;
    signature_date = x.signature_date;
    bank = b;
    debtor_name = x.debtor_name;
    debtor_account = x.debtor_account;
    remittance = r;
  }

  pub collection_held : GoodCollection x → collection_in x.terms (transaction_held x) ≡ x
  collection_held g = go x.bank x.remittance
    where
      e : number_told (judged Amount (euros x.cents)) ≡ x.cents
      e = ap number_told (amount-good x.cents g.least g.most)

      go : (b r : Bytes) → collection_in x.terms (transaction_held (made x.cents b r)) ≡ made x.cents b r
      go [] [] = ap (λ (c : ℕ). made c [] []) e
      go [] (d ∷ r) = ap (λ (c : ℕ). made c [] (d ∷ r)) e
      go (c ∷ b) [] = ap (λ (n : ℕ). made n (c ∷ b) []) e
      go (c ∷ b) (d ∷ r) = ap (λ (n : ℕ). made n (c ∷ b) (d ∷ r)) e

collections-held : (k : Terms) (xs : List Collection) → All (λ x. x.terms ≡ k) xs → All GoodCollection xs → map (collection_in k) (map transaction_held xs) ≡ xs
collections-held k [] a g = refl
collections-held k (x ∷ xs) a g =
    ap₂ {C = List Collection} (λ (y : Collection) (l : List Collection). y ∷ l)
    (ap (λ (j : Terms). collection_in j (transaction_held x)) (sym a.0) ∙ collection_held x g.0) (collections-held k xs a.1 g.1)

-- ─── a batch ───

-- the creditor's bank and what follows it play no part
quiet : (k : ℕ) (b i : Bytes) → T (each (above k) (bank_held 0 b ++ scheme_held i))
quiet k [] i = tt
quiet k (c ∷ b) i = tt

module _ (cr : Creditor) (n : ℕ) (xs : List Collection) where
  abbrev behind : List Content
  behind = (bank_held 0 cr.bank ++ scheme_held cr.identifier) ++ gather transaction_held xs

  pub behind-without : (p : ℕ) → 1 ≤ p → p < 9 → T (each (without p) behind)
  behind-without p h l =
      each_append (without p) (bank_held 0 cr.bank ++ scheme_held cr.identifier) (gather transaction_held xs)
      (above-without 9 p h l (bank_held 0 cr.bank ++ scheme_held cr.identifier) (quiet 9 cr.bank cr.identifier))
      (each-gather (without p) transaction_held xs (λ x. transaction-without x p h l))

  -- where the head has one element of a part below that of a transaction, that is the one of the batch
  one_found : (p : ℕ) → 1 ≤ p → p < 9 → (c : Content) → last_or none (c ∷ all_of p behind) ≡ some c
  one_found p h l c = ap (λ (cs : List Content). last_or none (c ∷ cs)) (all_without p behind (behind-without p h l))

  pub count-found : the part.batch_count (batch_held cr (n, xs)) ≡ some (txt part.batch_count Count (decimal (length xs)))
  count-found = one_found 4 (omega arith) (omega arith) (txt part.batch_count Count (decimal (length xs)))

  pub sum-found : the part.batch_sum (batch_held cr (n, xs)) ≡ some (txt part.batch_sum Sum (euros (total_cents xs)))
  sum-found = one_found 5 (omega arith) (omega arith) (txt part.batch_sum Sum (euros (total_cents xs)))

  terms-held : GoodTerms (terms_of xs) → terms_in (batch_held cr (n, xs)) ≡ terms_of xs
  terms-held g = λ i. record {
    scheme = (ap worth (one_found 6 (omega arith) (omega arith) (txt part.scheme Scheme (scheme_word (terms_of xs).scheme))) ∙ ap number_told (scheme-good (terms_of xs).scheme g.scheme)) i;
    sequence = (ap worth (one_found 7 (omega arith) (omega arith) (txt part.sequence Sequence (sequence_word (terms_of xs).sequence))) ∙ ap number_told (sequence-good (terms_of xs).sequence g.sequence)) i;
    date = ap text_of (one_found 8 (omega arith) (omega arith) (txt part.collection_date Date (terms_of xs).date)) i;
  }

  pub transactions-held : parts part.transaction (batch_held cr (n, xs)) ≡ map transaction_held xs
  transactions-held =
      parts-without part.transaction (head_held cr n xs) (gather transaction_held xs)
      (above-without 10 9 (omega arith) (omega arith) (bank_held 0 cr.bank ++ scheme_held cr.identifier) (quiet 10 cr.bank cr.identifier))
      ∙ parts-gather part.transaction transaction_held transaction-piece xs

  pub batch-collections : GoodTerms (terms_of xs) → All (λ x. x.terms ≡ terms_of xs) xs → All GoodCollection xs → collections_in (batch_held cr (n, xs)) ≡ xs
  batch-collections g a c =
      ap₂ (λ (k : Terms) (ps : List (List Content)). map (collection_in k) ps) (terms-held g) transactions-held ∙ collections-held (terms_of xs) xs a c

-- ─── the message ───

pub batch-piece : (cr : Creditor) (q : ℕ × List Collection) → Piece part.batch (batch_held cr q)
batch-piece cr q = record { first = box part.batch; rest = drop 1 (batch_held cr q); whole = refl; plays = tt; no_other = behind-without cr q.0 q.1 3 (omega arith) (omega arith) }

pub message-batches : (cr : Creditor) (bs : List (List Collection)) → parts part.batch (message_held cr bs) ≡ map (batch_held cr) (number 1 bs)
message-batches cr bs = parts-gather part.batch (batch_held cr) (batch-piece cr) (number 1 bs)
