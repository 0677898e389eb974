-- WHAT THE WRITTEN MESSAGE HOLDS, element by element. Not to be believed: `message-held` says that these are the contents of the message's tree.
--   box p, txt p r s                            an element that holds elements; an element with a text
--   bank_held p s, remittance_held s              a bank; RmtInf or nothing
--   transaction_held x, head_held cr n xs         DrctDbtTxInf; PmtInf up to its first transaction
--   batch_held cr (n, xs)                        PmtInf, batch n of the collections xs
--   message_held cr bs                           the whole
use Rattle.std.specs.Prelude.{ℕ, List, [], ◌∷◌, ◌++◌, length}
use Rattle.laws.specs.Bytes.{Bytes, ascii}
use Rattle.laws.specs.Lists.{concat, gather, number}
use Rattle.put.specs.Numerals.{decimal, euros, batch_id}
use Rattle.text.specs.declared.Rule.{Rule}
use Rattle.text.specs.declared.Rule.TheVariants.{Identifier, Name, Remittance, Count, Sum, Amount, Date, Time, Iban, Bic, CreditorIdentifier, Method, Booking, Sepa, Scheme, Sequence, Charges, NotProvided}
use Rattle.tree.specs.declared.Kind.TheVariants.{Holds, Text}
use Rattle.tree.specs.Parts as part
use Rattle.collections.specs.Listed.{Collection, Creditor}
use Rattle.written.specs.Written.{scheme_word, sequence_word, terms_of}
use Rattle.carries.specs.Contents.{Content, content, total_cents}

abbrev pub box : ℕ → Content
box p = content p Holds []

abbrev pub txt : ℕ → Rule → Bytes → Content
txt p r s = content p (Text r) s

-- ─── a transaction ───

abbrev pub bank_held : ℕ → Bytes → List Content
bank_held p [] = box 0 ∷ box 0 ∷ txt 0 NotProvided (ascii "NOTPROVIDED") ∷ []
bank_held p (c ∷ s) = box 0 ∷ txt p Bic (c ∷ s) ∷ []

abbrev pub remittance_held : Bytes → List Content
remittance_held [] = []
remittance_held (c ∷ s) = box 0 ∷ txt part.remittance Remittance (c ∷ s) ∷ []

-- up to the debtor's bank: end-to-end id, amount, mandate id, signature date
abbrev pub payment : Bytes → Bytes → Bytes → Bytes → List Content
payment e a m d =
    box part.transaction
    ∷ box 0
    ∷ txt part.end_to_end Identifier e
    ∷ txt part.amount Amount a
    ∷ box 0
    ∷ box 0
    ∷ txt part.mandate Identifier m
    ∷ txt part.signature_date Date d
    ∷ box 0
    ∷ []

-- after it: name and account
abbrev pub debtor : Bytes → Bytes → List Content
debtor n a = box 0 ∷ txt part.debtor_name Name n ∷ box 0 ∷ box 0 ∷ txt part.debtor_account Iban a ∷ []

abbrev pub transaction_held : Collection → List Content
transaction_held x =
    payment x.end_to_end (euros x.cents) x.mandate x.signature_date
    ++ (bank_held part.debtor_bank x.bank ++ (debtor x.debtor_name x.debtor_account ++ remittance_held x.remittance))

-- ─── a batch ───

-- up to the creditor's bank: id, count, sum, scheme, sequence, date; the creditor's name and account
abbrev pub totals_held : Bytes → Bytes → Bytes → Bytes → Bytes → Bytes → Bytes → Bytes → List Content
totals_held i n s k q d nm a =
    box part.batch
    ∷ txt 0 Identifier i
    ∷ txt 0 Method (ascii "DD")
    ∷ txt 0 Booking (ascii "true")
    ∷ txt part.batch_count Count n
    ∷ txt part.batch_sum Sum s
    ∷ box 0
    ∷ box 0
    ∷ txt 0 Sepa (ascii "SEPA")
    ∷ box 0
    ∷ txt part.scheme Scheme k
    ∷ txt part.sequence Sequence q
    ∷ txt part.collection_date Date d
    ∷ box 0
    ∷ txt 0 Name nm
    ∷ box 0
    ∷ box 0
    ∷ txt 0 Iban a
    ∷ box 0
    ∷ []

-- after it: the creditor identifier
abbrev pub scheme_held : Bytes → List Content
scheme_held i =
    txt 0 Charges (ascii "SLEV")
    ∷ box 0
    ∷ box 0
    ∷ box 0
    ∷ box 0
    ∷ txt 0 CreditorIdentifier i
    ∷ box 0
    ∷ txt 0 Sepa (ascii "SEPA")
    ∷ []

abbrev pub head_held : Creditor → ℕ → List Collection → List Content
head_held cr n xs =
    totals_held (batch_id n) (decimal (length xs)) (euros (total_cents xs)) (scheme_word (terms_of xs).scheme) (sequence_word (terms_of xs).sequence) (terms_of xs).date cr.name cr.account
    ++ (bank_held 0 cr.bank ++ scheme_held cr.identifier)

abbrev pub batch_held : Creditor → ℕ × List Collection → List Content
batch_held cr q = head_held cr q.0 q.1 ++ gather transaction_held q.1

-- ─── the message ───

-- message id, creation time, count, sum, initiating name
abbrev pub group_header_held : Bytes → Bytes → Bytes → Bytes → Bytes → List Content
group_header_held i t n s nm =
    box 0
    ∷ box 0
    ∷ box 0
    ∷ txt 0 Identifier i
    ∷ txt 0 Time t
    ∷ txt part.message_count Count n
    ∷ txt part.message_sum Sum s
    ∷ box 0
    ∷ txt 0 Name nm
    ∷ []

abbrev pub opening_held : Creditor → List Collection → List Content
opening_held cr xs = group_header_held cr.message_id cr.creation_time (decimal (length xs)) (euros (total_cents xs)) cr.initiating_name

abbrev pub message_held : Creditor → List (List Collection) → List Content
message_held cr bs = opening_held cr (concat bs) ++ gather (batch_held cr) (number 1 bs)
