-- THE CONTENTS OF THE WRITTEN MESSAGE'S TREE, where no text has the byte `<`, no batch is empty and there is a batch.
--   several-held           one or more trees, of which the contents are known
--   transaction-held       of a transaction, before what follows
--   batch-held             of a batch, before what follows
--   message-held           of the message
--   length-number          as many as there are, numbered
use Prim.Native.Nat.{ℕ, suc, ◌≤◌}
use native.Mathlib.Omega.{arith}
use mathlib.Core.List.{List, [], ◌∷◌, ◌++◌, map, append_assoc, append-nil}
use mathlib.Core.Path.{◌≡◌, refl, ap, sym, ◌∙◌}
use lib.Dec.{T}
use lib.ListN.{length}
use Rattle.laws.specs.Bytes.{Bytes}
use Rattle.laws.specs.Lists.{All, concat, gather, number}
use Rattle.put.specs.Numerals.{decimal, euros, batch_id}
use Rattle.text.specs.declared.Rule.TheVariants.{Bic, Remittance}
use Rattle.tree.specs.Form.{Elem, Tree}
use Rattle.tree.specs.Pain008.{pmt_inf}
use Rattle.tree.specs.Parts as part
use Rattle.collections.specs.Listed.{Collection, Creditor}
use Rattle.written.specs.Blocks.{more, several}
use Rattle.written.specs.Written.{scheme_word, sequence_word, bank_tree, remittance_tree, transaction_tree, no_collection, terms_of, batch_tree, batch_trees, message_of}
use Rattle.written.proofs.Clean.{clean, keep-clean, Clean, CleanCreditor, decimal-clean, euros-clean, batch_id_clean, scheme-clean, sequence-clean}
use Rattle.carries.specs.Contents.{Content, contents, kid_contents, total_cents}
use Rattle.carries.specs.Held.{box, txt, bank_held, remittance_held, payment, debtor, transaction_held, totals_held, scheme_held, batch_held, group_header_held, message_held}

-- ─── one or more trees ───

module _ {A : Type 0} {e : Elem} (f : A → Tree e) (g : A → List Content) where
  abbrev IsHeld : A → Type 0
  IsHeld x = (r : List Content) → contents (f x) r ≡ g x ++ r

  more-held : (xs : List A) → All IsHeld xs → (r : List Content) → kid_contents (more (map f xs)) r ≡ gather g xs ++ r
  more-held [] h r = refl
  more-held (x ∷ xs) h r = h.0 (kid_contents (more (map f xs)) r) ∙ ap (λ (l : List Content). g x ++ l) (more-held xs h.1 r) ∙ sym (append_assoc (g x) (gather g xs) r)

  pub several-held : (d : Tree e) (xs : List A) → 1 ≤ length xs → All IsHeld xs → (r : List Content) → kid_contents (several d (map f xs)) r ≡ gather g xs ++ r
  several-held d [] n h r = absurd (omega arith)
  several-held d (x ∷ xs) n h r = more-held (x ∷ xs) h r

-- ─── a transaction ───

bank-held : (p : ℕ) (s : Bytes) → T (clean s) → (r : List Content) → kid_contents (bank_tree {p = p} s) r ≡ bank_held p s ++ r
bank-held p [] t r = refl
bank-held p (c ∷ s) t r = λ i. box 0 ∷ txt p Bic (keep-clean (c ∷ s) t i) ∷ r

remittance-held : (s : Bytes) → T (clean s) → (r : List Content) → kid_contents (remittance_tree s) r ≡ remittance_held s ++ r
remittance-held [] t r = refl
remittance-held (c ∷ s) t r = λ i. box 0 ∷ txt part.remittance Remittance (keep-clean (c ∷ s) t i) ∷ r

pub transaction-held : (x : Collection) → Clean x → (r : List Content) → contents (transaction_tree x) r ≡ transaction_held x ++ r
transaction-held x h r = held ∙ ap (λ (l : List Content). payment x.end_to_end (euros x.cents) x.mandate x.signature_date ++ l) (sym (append_assoc (bank_held part.debtor_bank x.bank) (debtor x.debtor_name x.debtor_account ++ remittance_held x.remittance) r))
  where
    held : contents (transaction_tree x) r
        ≡ payment x.end_to_end (euros x.cents) x.mandate x.signature_date
        ++ (bank_held part.debtor_bank x.bank ++ (debtor x.debtor_name x.debtor_account ++ (remittance_held x.remittance ++ r)))
    held = λ i. payment (keep-clean x.end_to_end h.end_to_end i) (keep-clean (euros x.cents) (euros-clean x.cents) i) (keep-clean x.mandate h.mandate i) (keep-clean x.signature_date h.signature_date i)
        ++ bank-held part.debtor_bank x.bank h.bank (debtor (keep-clean x.debtor_name h.debtor_name i) (keep-clean x.debtor_account h.debtor_account i) ++ remittance-held x.remittance h.remittance r i) i

-- ─── a batch ───

date-clean : (xs : List Collection) → All Clean xs → T (clean (terms_of xs).date)
date-clean [] h = tt
date-clean (x ∷ xs) h = h.0.date

each-held : (xs : List Collection) → All Clean xs → All (IsHeld transaction_tree transaction_held) xs
each-held [] h = tt
each-held (x ∷ xs) h = (transaction-held x h.0, each-held xs h.1)

regroup : (b s g r : List Content) → b ++ (s ++ (g ++ r)) ≡ ((b ++ s) ++ g) ++ r
regroup b s g r = sym (append_assoc (b ++ s) g r ∙ append_assoc b s (g ++ r))

pub length-number : {A : Type 0} (n : ℕ) (xs : List A) → length (number n xs) ≡ length xs
length-number n [] = refl
length-number n (x ∷ xs) = ap suc (length-number (suc n) xs)

module _ (cr : Creditor) (h : CleanCreditor cr) where
  pub batch-held : (n : ℕ) (xs : List Collection) → All Clean xs → 1 ≤ length xs → (r : List Content) → contents (batch_tree cr n xs) r ≡ batch_held cr (n, xs) ++ r
  batch-held n xs k some r = held ∙ ap (λ (l : List Content). head ++ l) (regroup (bank_held 0 cr.bank) (scheme_held cr.identifier) (gather transaction_held xs) r)
    where
      head : List Content
      head = totals_held (batch_id n) (decimal (length xs)) (euros (total_cents xs)) (scheme_word (terms_of xs).scheme) (sequence_word (terms_of xs).sequence) (terms_of xs).date cr.name cr.account

      held : contents (batch_tree cr n xs) r ≡ head ++ (bank_held 0 cr.bank ++ (scheme_held cr.identifier ++ (gather transaction_held xs ++ r)))
      held = λ i. totals_held (keep-clean (batch_id n) (batch_id_clean n) i)
          (keep-clean (decimal (length xs)) (decimal-clean (length xs)) i)
          (keep-clean (euros (total_cents xs)) (euros-clean (total_cents xs)) i)
          (keep-clean (scheme_word (terms_of xs).scheme) (scheme-clean (terms_of xs).scheme) i)
          (keep-clean (sequence_word (terms_of xs).sequence) (sequence-clean (terms_of xs).sequence) i)
          (keep-clean (terms_of xs).date (date-clean xs k) i)
          (keep-clean cr.name h.name i)
          (keep-clean cr.account h.account i)
          ++ bank-held 0 cr.bank h.bank
          (scheme_held (keep-clean cr.identifier h.identifier i) ++ several-held transaction_tree transaction_held (transaction_tree no_collection) xs some (each-held xs k) r i) i

  -- ─── the message ───

  trees : (n : ℕ) (bs : List (List Collection)) → batch_trees cr n bs ≡ map (λ q. batch_tree cr q.0 q.1) (number n bs)
  trees n [] = refl
  trees n (b ∷ bs) = ap {B = List (Tree pmt_inf)} (λ (l : List (Tree pmt_inf)). batch_tree cr n b ∷ l) (trees (suc n) bs)

  batches-held : (n : ℕ) (bs : List (List Collection)) → All (λ b. (1 ≤ length b) × All Clean b) bs → All (IsHeld (λ q. batch_tree cr q.0 q.1) (batch_held cr)) (number n bs)
  batches-held n [] k = tt
  batches-held n (b ∷ bs) k = (batch-held n b k.0.1 k.0.0, batches-held (suc n) bs k.1)

  pub message-held : (bs : List (List Collection)) → 1 ≤ length bs → All (λ b. (1 ≤ length b) × All Clean b) bs → contents (message_of cr bs).body [] ≡ message_held cr bs
  message-held bs some k = held ∙ ap (λ (l : List Content). head ++ l) (rest ∙ append-nil (gather (batch_held cr) (number 1 bs)))
    where
      head : List Content
      head = group_header_held cr.message_id cr.creation_time (decimal (length (concat bs))) (euros (total_cents (concat bs))) cr.initiating_name

      d : Tree pmt_inf
      d = batch_tree cr 1 []

      rest : kid_contents (several d (batch_trees cr 1 bs)) [] ≡ gather (batch_held cr) (number 1 bs) ++ []
      rest =
          ap (λ (ts : List (Tree pmt_inf)). kid_contents (several d ts) []) (trees 1 bs)
          ∙ several-held (λ q. batch_tree cr q.0 q.1) (batch_held cr) d (number 1 bs) (omega (arith, length-number 1 bs)) (batches-held 1 bs k) []

      held : contents (message_of cr bs).body [] ≡ head ++ kid_contents (several d (batch_trees cr 1 bs)) []
      held = λ i. group_header_held (keep-clean cr.message_id h.message_id i) (keep-clean cr.creation_time h.creation_time i)
          (keep-clean (decimal (length (concat bs))) (decimal-clean (length (concat bs))) i)
          (keep-clean (euros (total_cents (concat bs))) (euros-clean (total_cents (concat bs))) i)
          (keep-clean cr.initiating_name h.initiating_name i)
          ++ kid_contents (several d (batch_trees cr 1 bs)) []
