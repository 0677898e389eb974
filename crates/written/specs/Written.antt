-- THE WRITTEN MESSAGE: what document 01 fixes for a list and a ceiling, as a tree of the profile. To be believed; definitions only.
--   scheme_word n, sequence_word n       the word of a scheme and of a sequence
--   bank_tree b, account_tree a          BICFI, or NOTPROVIDED for the empty BIC; Id(IBAN)
--   remittance_tree r                   RmtInf(Ustrd), or nothing for no remittance
--   header_tree, transaction_tree, batch_tree   GrpHdr, DrctDbtTxInf, PmtInf
--   message_of cr bs                    the message of a creditor and its batches
--   batches_for s c                     the batches of the list s at the ceiling c
--   message_for s c                     THE MESSAGE of the list s at the ceiling c; `written s c`: its bytes
use Rattle.std.specs.Prelude.{ℕ, suc, true, List, [], ◌∷◌, map, length, get_or}
use Rattle.laws.specs.Bytes.{Bytes, ascii}
use Rattle.laws.specs.Lists.{total, concat}
use Rattle.put.specs.Numerals.{decimal, euros, batch_id}
use Rattle.text.specs.declared.Rule.TheVariants.{Remittance}
use Rattle.tree.specs.Form.{Tree, Kids, Message, message, Items.none, Kids.end}
use Rattle.tree.specs.Parts as part
use Rattle.tree.specs.Pain008.{txt, box, ◌plays◌, ◌optional◌, only as last, bank, account, grp_hdr, pmt_inf, drct_dbt_tx_inf, document, declaration}
use Rattle.bundle.specs.Bundle.{bundle}
use Rattle.collections.specs.Listed.{Terms, same_terms, Collection, Creditor, creditor, listed}
use Rattle.written.specs.Blocks.{bare, leaf, node, ◌before◌, ◌given◌, absent, only, this, other, several}

-- ─── words ───

-- in the order in which document 01 lists them
abbrev pub scheme_word : ℕ → Bytes
scheme_word n = get_or (ascii "CORE" ∷ ascii "B2B" ∷ []) n []

abbrev pub sequence_word : ℕ → Bytes
sequence_word n = get_or (ascii "FRST" ∷ ascii "RCUR" ∷ ascii "OOFF" ∷ ascii "FNAL" ∷ []) n []

-- ─── banks and accounts ───

abbrev pub bank_tree : {p : ℕ} → Bytes → Kids (bank p)
bank_tree [] = only (node (other (node (only (leaf (ascii "NOTPROVIDED"))))))
bank_tree (c ∷ s) = only (node (this (leaf (c ∷ s))))

abbrev pub account_tree : {p : ℕ} → Bytes → Kids (account p)
account_tree s = only (node (only (leaf s)))

-- ─── a transaction ───

-- RmtInf(Ustrd) only where there is remittance
abbrev pub remittance_tree : Bytes → Kids (box "RmtInf" (last (part.remittance plays txt "Ustrd" Remittance)) optional none)
remittance_tree [] = absent end
remittance_tree (c ∷ s) = node (only (leaf (c ∷ s))) given end

-- no InstrId, and no address
abbrev pub transaction_tree : Collection → Tree drct_dbt_tx_inf
transaction_tree x =
    node (
    node (absent (only (leaf x.end_to_end))) before
    leaf (euros x.cents) before
    node (only (node (leaf x.mandate before only (leaf x.signature_date)))) before
    node (bank_tree x.bank) before
    node (leaf x.debtor_name before absent end) before
    node (account_tree x.debtor_account) before
    remittance_tree x.remittance)

-- ─── a batch ───

abbrev pub no_terms : Terms
no_terms = record { scheme = 0; sequence = 0; date = [] }

abbrev pub no_collection : Collection
no_collection = record { terms = no_terms; cents = 0; end_to_end = []; mandate = []; signature_date = []; bank = []; debtor_name = []; debtor_account = []; remittance = [] }

-- all collections of a batch have the terms of its first
abbrev pub terms_of : List Collection → Terms
terms_of [] = no_terms
terms_of (x ∷ xs) = x.terms

abbrev pub batch_tree : Creditor → ℕ → List Collection → Tree pmt_inf
batch_tree cr n xs =
    node (
    leaf (batch_id n) before
    leaf (ascii "DD") before
    leaf (ascii "true") given
    leaf (decimal (length xs)) given
    leaf (euros (total (λ x. x.cents) xs)) given
    node (
    node (only (leaf (ascii "SEPA"))) before
    node (only (leaf (scheme_word (terms_of xs).scheme))) before
    only (leaf (sequence_word (terms_of xs).sequence))) before
    leaf (terms_of xs).date before
    node (leaf cr.name before absent end) before
    node (account_tree cr.account) before
    node (bank_tree cr.bank) before
    leaf (ascii "SLEV") before
    node (only (node (only (node (only (node (leaf cr.identifier before only (node (only (leaf (ascii "SEPA"))))))))))) before
    several (transaction_tree no_collection) (map transaction_tree xs))

-- numbered from n on
abbrev pub batch_trees : Creditor → ℕ → List (List Collection) → List (Tree pmt_inf)
batch_trees cr n [] = []
batch_trees cr n (b ∷ bs) = batch_tree cr n b ∷ batch_trees cr (suc n) bs

-- ─── the message ───

abbrev pub header_tree : Creditor → List Collection → Tree grp_hdr
header_tree cr xs =
    node (
    leaf cr.message_id before
    leaf cr.creation_time before
    leaf (decimal (length xs)) before
    leaf (euros (total (λ x. x.cents) xs)) before
    only (node (only (leaf cr.initiating_name))))

-- declared, without white space
abbrev pub message_of : Creditor → List (List Collection) → Message document
message_of cr bs = record {
  declared = true;
  before = bare;
  body = node (only (node (header_tree cr (concat bs) before several (batch_tree cr 1 []) (batch_trees cr 1 bs))));
  behind = bare;
}

abbrev pub batches_for : Bytes → ℕ → List (List Collection)
batches_for s c = bundle (λ x. x.terms) same_terms c (listed s)

abbrev pub message_for : Bytes → ℕ → Message document
message_for s c = message_of (creditor s) (batches_for s c)

unfoldable pub written : Bytes → ℕ → Bytes
written s c = message declaration (message_for s c)
