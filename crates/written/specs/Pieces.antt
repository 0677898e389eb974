-- THE BYTES OF THE MESSAGE, PIECE BY PIECE, as the code writes them. Not to be believed: the message is that of Written, and `pieces-written` says that these are its bytes.
--   bank_bytes, remittance_bytes, transaction_bytes   of a transaction
--   sums_bytes n sum                                a number of transactions, and their sum
--   id_bytes, totals_bytes, terms_bytes, creditor_bytes   of a batch before its first transaction, one after the other
--   head_bytes cr n xs, batch_bytes cr n xs          of batch n with the collections xs: before its first transaction; the whole
--   ids_bytes cr                                    of a message up to its creation time
--   opening_bytes cr n sum                          up to its first batch, for n collections of `sum` cents
--   message_bytes cr bs                             the whole
use Rattle.std.specs.Prelude.{ℕ, suc, List, [], ◌∷◌, ◌++◌, length}
use Rattle.laws.specs.Bytes.{Bytes, ascii}
use Rattle.laws.specs.Lists.{total, concat, gather}
use Rattle.put.specs.Numerals.{decimal, euros, batch_id}
use Rattle.tree.specs.Pain008.{declaration}
use Rattle.collections.specs.Listed.{Terms, Collection, Creditor}
use Rattle.written.specs.Written.{scheme_word, sequence_word, terms_of}

abbrev pub bank_bytes : Bytes → Bytes
bank_bytes [] = ascii "<FinInstnId><Othr><Id>NOTPROVIDED</Id></Othr></FinInstnId>"
bank_bytes (c ∷ s) = ascii "<FinInstnId><BICFI>" ++ ((c ∷ s) ++ ascii "</BICFI></FinInstnId>")

abbrev pub remittance_bytes : Bytes → Bytes
remittance_bytes [] = []
remittance_bytes (c ∷ s) = ascii "<RmtInf><Ustrd>" ++ ((c ∷ s) ++ ascii "</Ustrd></RmtInf>")

-- up to the debtor's bank, and from there on
abbrev pub payment_bytes : Collection → Bytes
payment_bytes x =
    ascii "<DrctDbtTxInf><PmtId><EndToEndId>" ++ (x.end_to_end
    ++ (ascii "</EndToEndId></PmtId><InstdAmt Ccy=\"EUR\">" ++ (euros x.cents
    ++ (ascii "</InstdAmt><DrctDbtTx><MndtRltdInf><MndtId>" ++ (x.mandate
    ++ (ascii "</MndtId><DtOfSgntr>" ++ (x.signature_date
    ++ ascii "</DtOfSgntr></MndtRltdInf></DrctDbtTx><DbtrAgt>")))))))

abbrev pub debtor_bytes : Collection → Bytes
debtor_bytes x =
    bank_bytes x.bank
    ++ (ascii "</DbtrAgt><Dbtr><Nm>" ++ (x.debtor_name
    ++ (ascii "</Nm></Dbtr><DbtrAcct><Id><IBAN>" ++ (x.debtor_account
    ++ (ascii "</IBAN></Id></DbtrAcct>" ++ (remittance_bytes x.remittance
    ++ ascii "</DrctDbtTxInf>"))))))

unfoldable pub transaction_bytes : Collection → Bytes
transaction_bytes x = payment_bytes x ++ debtor_bytes x

-- a number of transactions, and their sum
abbrev pub sums_bytes : ℕ → ℕ → Bytes
sums_bytes n sum = decimal n ++ (ascii "</NbOfTxs><CtrlSum>" ++ euros sum)

-- a batch up to its id, up to its terms, its terms, its creditor
abbrev pub id_bytes : ℕ → Bytes
id_bytes n = ascii "<PmtInf><PmtInfId>" ++ batch_id n

abbrev pub totals_bytes : ℕ → ℕ → ℕ → Bytes
totals_bytes n count sum =
    id_bytes n
    ++ (ascii "</PmtInfId><PmtMtd>DD</PmtMtd><BtchBookg>true</BtchBookg><NbOfTxs>" ++ (sums_bytes count sum
    ++ ascii "</CtrlSum><PmtTpInf><SvcLvl><Cd>SEPA</Cd></SvcLvl><LclInstrm><Cd>"))

abbrev pub terms_bytes : Terms → Bytes
terms_bytes k =
    scheme_word k.scheme ++ (ascii "</Cd></LclInstrm><SeqTp>" ++ (sequence_word k.sequence
    ++ (ascii "</SeqTp></PmtTpInf><ReqdColltnDt>" ++ (k.date
    ++ ascii "</ReqdColltnDt><Cdtr><Nm>"))))

abbrev pub creditor_bytes : Creditor → Bytes
creditor_bytes cr =
    cr.name ++ (ascii "</Nm></Cdtr><CdtrAcct><Id><IBAN>" ++ (cr.account
    ++ (ascii "</IBAN></Id></CdtrAcct><CdtrAgt>" ++ (bank_bytes cr.bank
    ++ (ascii "</CdtrAgt><ChrgBr>SLEV</ChrgBr><CdtrSchmeId><Id><PrvtId><Othr><Id>" ++ (cr.identifier
    ++ ascii "</Id><SchmeNm><Prtry>SEPA</Prtry></SchmeNm></Othr></PrvtId></Id></CdtrSchmeId>"))))))

unfoldable pub head_bytes : Creditor → ℕ → List Collection → Bytes
head_bytes cr n xs = totals_bytes n (length xs) (total (λ x. x.cents) xs) ++ (terms_bytes (terms_of xs) ++ creditor_bytes cr)

unfoldable pub batch_bytes : Creditor → ℕ → List Collection → Bytes
batch_bytes cr n xs = head_bytes cr n xs ++ (gather transaction_bytes xs ++ ascii "</PmtInf>")

-- batches numbered from n on
abbrev pub batches_bytes : Creditor → ℕ → List (List Collection) → Bytes
batches_bytes cr n [] = []
batches_bytes cr n (b ∷ bs) = batch_bytes cr n b ++ batches_bytes cr (suc n) bs

-- a message up to its creation time
abbrev pub ids_bytes : Creditor → Bytes
ids_bytes cr =
    declaration ++ (ascii "<Document xmlns=\"urn:iso:std:iso:20022:tech:xsd:pain.008.001.08\"><CstmrDrctDbtInitn><GrpHdr><MsgId>" ++ (cr.message_id
    ++ (ascii "</MsgId><CreDtTm>" ++ cr.creation_time)))

unfoldable pub opening_bytes : Creditor → ℕ → ℕ → Bytes
opening_bytes cr n sum =
    ids_bytes cr
    ++ (ascii "</CreDtTm><NbOfTxs>" ++ (sums_bytes n sum
    ++ (ascii "</CtrlSum><InitgPty><Nm>" ++ (cr.initiating_name
    ++ ascii "</Nm></InitgPty></GrpHdr>"))))

unfoldable pub message_bytes : Creditor → List (List Collection) → Bytes
message_bytes cr bs =
    opening_bytes cr (length (concat bs)) (total (λ x. x.cents) (concat bs))
    ++ (batches_bytes cr 1 bs ++ ascii "</CstmrDrctDbtInitn></Document>")
