-- THE MESSAGES OF THE EXAMPLES, byte for byte: two collections of one terms, the first without a bank and with remittance, the second with a bank and without remittance.
--   printed   both in one batch, 1,743 bytes
--   apart     one in each of two batches, 2,338 bytes
use Prim.Native.String.{String}
use mathlib.Core.List.{[], ◌∷◌}
use Rattle.laws.specs.Bytes.{Bytes, ascii}
use Rattle.laws.specs.Lists.{concat}

-- ─── their parts ───

abbrev opening : Bytes
opening =
    ascii "<?xml version=\"1.0\" encoding=\"UTF-8\"?><Document xmlns=\"urn:iso:std:iso:20022:tech:xsd:pain.008.001.08\"><CstmrDrctDbtInitn><GrpHdr><MsgId>RUN-2026/07</MsgId><CreDtTm>2026-11-02T09:30:00</CreDtTm><NbOfTxs>2</NbOfTxs><CtrlSum>3250.15</CtrlSum><InitgPty><Nm>Leak Labs Bureau</Nm></InitgPty></GrpHdr>"

-- a batch up to its first transaction: its id, count and sum
abbrev head_of : String → String → String → Bytes
head_of id count sum =
    concat (
    ascii "<PmtInf><PmtInfId>"
    ∷ ascii id
    ∷ ascii "</PmtInfId><PmtMtd>DD</PmtMtd><BtchBookg>true</BtchBookg><NbOfTxs>"
    ∷ ascii count
    ∷ ascii "</NbOfTxs><CtrlSum>"
    ∷ ascii sum
    ∷ ascii "</CtrlSum><PmtTpInf><SvcLvl><Cd>SEPA</Cd></SvcLvl><LclInstrm><Cd>CORE</Cd></LclInstrm><SeqTp>RCUR</SeqTp></PmtTpInf><ReqdColltnDt>2026-11-10</ReqdColltnDt><Cdtr><Nm>O'Neil Testing</Nm></Cdtr><CdtrAcct><Id><IBAN>BE68539007547034</IBAN></Id></CdtrAcct><CdtrAgt><FinInstnId><BICFI>BBRUBEBB</BICFI></FinInstnId></CdtrAgt><ChrgBr>SLEV</ChrgBr><CdtrSchmeId><Id><PrvtId><Othr><Id>BE69000050D000000008</Id><SchmeNm><Prtry>SEPA</Prtry></SchmeNm></Othr></PrvtId></Id></CdtrSchmeId>"
    ∷ [])

abbrev transaction_1 : Bytes
transaction_1 =
    ascii "<DrctDbtTxInf><PmtId><EndToEndId>FEE 1</EndToEndId></PmtId><InstdAmt Ccy=\"EUR\">1100.07</InstdAmt><DrctDbtTx><MndtRltdInf><MndtId>M-55555</MndtId><DtOfSgntr>2009-09-01</DtOfSgntr></MndtRltdInf></DrctDbtTx><DbtrAgt><FinInstnId><Othr><Id>NOTPROVIDED</Id></Othr></FinInstnId></DbtrAgt><Dbtr><Nm>Mr Debiteur N1</Nm></Dbtr><DbtrAcct><Id><IBAN>GB29NWBK60161331926819</IBAN></Id></DbtrAcct><RmtInf><Ustrd>Facture N1</Ustrd></RmtInf></DrctDbtTxInf>"

abbrev transaction_2 : Bytes
transaction_2 =
    ascii "<DrctDbtTxInf><PmtId><EndToEndId>FEE 2</EndToEndId></PmtId><InstdAmt Ccy=\"EUR\">2150.08</InstdAmt><DrctDbtTx><MndtRltdInf><MndtId>M-666/666</MndtId><DtOfSgntr>1989-07-03</DtOfSgntr></MndtRltdInf></DrctDbtTx><DbtrAgt><FinInstnId><BICFI>BANKGB2L</BICFI></FinInstnId></DbtrAgt><Dbtr><Nm>Mr Debiteur N2</Nm></Dbtr><DbtrAcct><Id><IBAN>BE30001216371411</IBAN></Id></DbtrAcct></DrctDbtTxInf>"

abbrev batch_end : Bytes
batch_end = ascii "</PmtInf>"

abbrev ending : Bytes
ending = ascii "</CstmrDrctDbtInitn></Document>"

-- ─── the messages ───

abbrev pub printed : Bytes
printed = concat (opening ∷ head_of "B001" "2" "3250.15" ∷ transaction_1 ∷ transaction_2 ∷ batch_end ∷ ending ∷ [])

abbrev pub apart : Bytes
apart = concat (opening ∷ head_of "B001" "1" "1100.07" ∷ transaction_1 ∷ batch_end ∷ head_of "B002" "1" "2150.08" ∷ transaction_2 ∷ batch_end ∷ ending ∷ [])
