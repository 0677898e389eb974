-- THE PIECES ARE THE BYTES OF THE TREE, where no text has the byte `<`, no batch is empty and there is a batch.
--   transaction-bytes, transaction-print   of a transaction: in front of what follows, and alone
--   batch-bytes                            of a batch, in front of what follows
--   pieces-written                         THE THEOREM: of the message
use Prim.Native.Nat.{ℕ, suc, ◌/◌, ◌≤◌}
use native.Mathlib.Omega.{arith}
use mathlib.Core.Bool.{true}
use mathlib.Core.List.{List, [], ◌∷◌, ◌++◌, map, append_assoc, append-nil}
use mathlib.Core.Path.{◌≡◌, refl, ap, ap₂, sym, ◌∙◌}
use lib.Dec.{T}
use lib.ListN.{length, length-map}
use Rattle.laws.specs.Bytes.{Bytes, ascii}
use Rattle.laws.specs.Lists.{total, All, concat, gather}
use Rattle.laws.proofs.Tests.{T_true}
use Rattle.put.specs.Numerals.{last_digit, decimal, euros}
use Rattle.tree.specs.Form.{in_text, Elem, Tree, print, print_kids, message}
use Rattle.tree.specs.Parts as part
use Rattle.tree.specs.Pain008.{declaration}
use Rattle.tree.proofs.Onto.{bytes, kid_bytes, bytes-print, kids-print}
use Rattle.collections.specs.Listed.{Collection, Creditor}
use Rattle.written.specs.Blocks.{more, several}
use Rattle.written.specs.Written.{bank_tree, remittance_tree, transaction_tree, batch_tree, batch_trees, message_of, scheme_word, sequence_word, terms_of, no_collection}
use Rattle.written.specs.Pieces.{bank_bytes, remittance_bytes, transaction_bytes, head_bytes, batch_bytes, batches_bytes, opening_bytes, message_bytes}
use Rattle.written.proofs.Clean.{clean, keep-clean, Clean, CleanCreditor, decimal-clean, euros-clean, digit-clean, scheme-clean, sequence-clean}

-- ─── lists of trees ───

more-print : {e : Elem} (ts : List (Tree e)) → print_kids (more ts) ≡ gather print ts
more-print [] = refl
more-print (t ∷ ts) = ap (λ (l : Bytes). print t ++ l) (more-print ts)

several-bytes : {e : Elem} (d : Tree e) (ts : List (Tree e)) → 1 ≤ length ts → (g r : Bytes) → kid_bytes (several d ts) g r ≡ gather print ts ++ (g ++ r)
several-bytes d [] h g r = absurd (omega arith)
several-bytes d (t ∷ ts) h g r = kids-print (several d (t ∷ ts)) g r ∙ ap (λ (l : Bytes). (print t ++ l) ++ (g ++ r)) (more-print ts)

print-is : {e : Elem} (t : Tree e) (b : Bytes) → ((r : Bytes) → bytes t r ≡ b ++ r) → print t ≡ b
print-is t b h = sym (append-nil (print t)) ∙ (sym (bytes-print t []) ∙ (h [] ∙ append-nil b))

-- ─── a transaction ───

bank-bytes : (p : ℕ) (s : Bytes) → T (clean s) → (g r : Bytes) → kid_bytes (bank_tree {p = p} s) g r ≡ bank_bytes s ++ (g ++ r)
bank-bytes p [] t g r = refl
bank-bytes p (c ∷ s) t g r = rw (keep-clean (c ∷ s) t, append_assoc (c ∷ s) (ascii "</BICFI></FinInstnId>") (g ++ r))

remittance-bytes : (s : Bytes) → T (clean s) → (g r : Bytes) → kid_bytes (remittance_tree s) g r ≡ remittance_bytes s ++ (g ++ r)
remittance-bytes [] t g r = refl
remittance-bytes (c ∷ s) t g r = rw (keep-clean (c ∷ s) t, append_assoc (c ∷ s) (ascii "</Ustrd></RmtInf>") (g ++ r))

pub transaction-bytes : (x : Collection) → Clean x → (r : Bytes) → bytes (transaction_tree x) r ≡ transaction_bytes x ++ r
unfolding transaction_bytes
transaction-bytes x h r =
    simp (
      append_assoc,
      keep-clean x.end_to_end h.end_to_end,
      keep-clean (euros x.cents) (euros-clean x.cents),
      keep-clean x.mandate h.mandate,
      keep-clean x.signature_date h.signature_date,
      bank-bytes part.debtor_bank x.bank h.bank,
      keep-clean x.debtor_name h.debtor_name,
      keep-clean x.debtor_account h.debtor_account,
      remittance-bytes x.remittance h.remittance,
    )

pub transaction-print : (x : Collection) → Clean x → print (transaction_tree x) ≡ transaction_bytes x
transaction-print x h = print-is (transaction_tree x) (transaction_bytes x) (transaction-bytes x h)

-- ─── a batch ───

transactions-print : (xs : List Collection) → All Clean xs → gather print (map transaction_tree xs) ≡ gather transaction_bytes xs
transactions-print [] h = refl
transactions-print (x ∷ xs) h = ap₂ {C = Bytes} (λ (a b : Bytes). a ++ b) (transaction-print x h.0) (transactions-print xs h.1)

digit-kept : (n : ℕ) → in_text (last_digit n) ≡ true
digit-kept n = T_true (in_text (last_digit n)) (digit-clean n)

date-clean : (xs : List Collection) → All Clean xs → T (clean (terms_of xs).date)
date-clean [] h = tt
date-clean (x ∷ xs) h = h.0.date

pub batch-bytes : (cr : Creditor) (n : ℕ) (xs : List Collection) → CleanCreditor cr → All Clean xs → 1 ≤ length xs → (r : Bytes) → bytes (batch_tree cr n xs) r ≡ batch_bytes cr n xs ++ r
unfolding batch_bytes head_bytes
batch-bytes cr n xs k h l r =
    simp (
      append_assoc,
      digit-kept (n / 100),
      digit-kept (n / 10),
      digit-kept n,
      keep-clean (decimal (length xs)) (decimal-clean (length xs)),
      keep-clean (euros (total (λ x. x.cents) xs)) (euros-clean (total (λ x. x.cents) xs)),
      keep-clean (scheme_word (terms_of xs).scheme) (scheme-clean (terms_of xs).scheme),
      keep-clean (sequence_word (terms_of xs).sequence) (sequence-clean (terms_of xs).sequence),
      keep-clean (terms_of xs).date (date-clean xs h),
      keep-clean cr.name k.name,
      keep-clean cr.account k.account,
      bank-bytes 0 cr.bank k.bank,
      keep-clean cr.identifier k.identifier,
      several-bytes (transaction_tree no_collection) (map transaction_tree xs) (rw (length-map xs transaction_tree) l),
      transactions-print xs h,
    )

batches-print : (cr : Creditor) (n : ℕ) (bs : List (List Collection)) → CleanCreditor cr → All (λ b. (1 ≤ length b) × All Clean b) bs → gather print (batch_trees cr n bs) ≡ batches_bytes cr n bs
batches-print cr n [] k h = refl
batches-print cr n (b ∷ bs) k h =
    ap₂ {C = Bytes} (λ (a b : Bytes). a ++ b) (print-is (batch_tree cr n b) (batch_bytes cr n b) (batch-bytes cr n b k h.0.1 h.0.0)) (batches-print cr (suc n) bs k h.1)

-- ─── the message ───

batches-length : (cr : Creditor) (n : ℕ) (bs : List (List Collection)) → length (batch_trees cr n bs) ≡ length bs
batches-length cr n [] = refl
batches-length cr n (b ∷ bs) = ap suc (batches-length cr (suc n) bs)

pub pieces-written : (cr : Creditor) (bs : List (List Collection)) → CleanCreditor cr → 1 ≤ length bs → All (λ b. (1 ≤ length b) × All Clean b) bs
    → message_bytes cr bs ≡ message declaration (message_of cr bs)
unfolding message_bytes opening_bytes
pieces-written cr bs k l h = sym (
    rw (← bytes-print (message_of cr bs).body []) (
    simp (
      append_assoc,
      append-nil,
      keep-clean cr.message_id k.message_id,
      keep-clean cr.creation_time k.creation_time,
      keep-clean (decimal (length (concat bs))) (decimal-clean (length (concat bs))),
      keep-clean (euros (total (λ x. x.cents) (concat bs))) (euros-clean (total (λ x. x.cents) (concat bs))),
      keep-clean cr.initiating_name k.initiating_name,
      several-bytes (batch_tree cr 1 []) (batch_trees cr 1 bs) (rw (batches-length cr 1 bs) l),
      batches-print cr 1 bs k h,
    )))
