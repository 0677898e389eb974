-- WHAT ONE MESSAGE CARRIES, as the definitions compute it. It is not of the writer's making: it has white space, an InstrId, an address, no declared counts and other spellings of amounts.
--   two-batches        its bytes: two batches of different terms
--   carried-read       what a message carries is computed from its bytes
--   two-carried        the collections of that message
use mathlib.Core.List.{List, [], ◌∷◌}
use mathlib.Core.Path.{◌≡◌, refl, ap, sym, ◌∙◌}
use Rattle.laws.specs.Bytes.{Bytes, ascii}
use Rattle.laws.specs.Lists.{concat}
use Rattle.tree.specs.Form.{Message, message}
use Rattle.tree.specs.Reader.{kids, read, Res, Res.done, Res.stuck}
use Rattle.tree.specs.Pain008.{document, declaration}
use Rattle.tree.proofs.Pain008.{read_all}
use Rattle.message.specs.Message.{tell}
use Rattle.collections.specs.Listed.{Terms, Collection}
use Rattle.carries.specs.Carried.{carried_from, carried_by}

-- ─── from the bytes ───

abbrev carried_read : Bytes → Res → List (List Collection)
carried_read s (done es) = carried_from s (tell s es)
carried_read s (stuck n) = []

pub carried-read : (m : Message document) → carried_by m ≡ carried_read (message declaration m) (read declaration document (message declaration m))
unfolding carried_by
carried-read m = ap (carried_read (message declaration m)) (sym (read_all m))

-- ─── the message ───

abbrev creditor : Bytes
creditor = ascii "<Cdtr><Nm>O'Neil</Nm></Cdtr><CdtrAcct><Id><IBAN>BE68539007547034</IBAN></Id></CdtrAcct><CdtrAgt><FinInstnId><BICFI>BBRUBEBB</BICFI></FinInstnId></CdtrAgt><ChrgBr>SLEV</ChrgBr><CdtrSchmeId><Id><PrvtId><Othr><Id>BE69ZZZ050D000000008</Id><SchmeNm><Prtry>SEPA</Prtry></SchmeNm></Othr></PrvtId></Id></CdtrSchmeId>"

abbrev two-batches : Bytes
two-batches =
    concat (
    ascii " <Document xmlns=\"urn:iso:std:iso:20022:tech:xsd:pain.008.001.08\"><CstmrDrctDbtInitn><GrpHdr><MsgId>RUN</MsgId><CreDtTm>2026-11-02T09:30:00</CreDtTm><NbOfTxs>3</NbOfTxs><CtrlSum>3284</CtrlSum><InitgPty><Nm>Bureau</Nm></InitgPty></GrpHdr> "
    ∷ ascii "<PmtInf><PmtInfId>A</PmtInfId><PmtMtd>DD</PmtMtd><BtchBookg>false</BtchBookg><PmtTpInf><SvcLvl><Cd>SEPA</Cd></SvcLvl><LclInstrm><Cd>CORE</Cd></LclInstrm><SeqTp>FRST</SeqTp></PmtTpInf><ReqdColltnDt>2026-11-10</ReqdColltnDt>"
    ∷ creditor
    ∷ ascii "<DrctDbtTxInf> <PmtId><InstrId>X1</InstrId><EndToEndId>FEE 1</EndToEndId></PmtId><InstdAmt Ccy=\"EUR\">3280</InstdAmt><DrctDbtTx><MndtRltdInf><MndtId>M-5</MndtId><DtOfSgntr>2009-09-01</DtOfSgntr></MndtRltdInf></DrctDbtTx><DbtrAgt><FinInstnId><BICFI>BANKGB2L</BICFI></FinInstnId></DbtrAgt><Dbtr><Nm>Anne</Nm><PstlAdr><TwnNm>Leeds</TwnNm><Ctry>GB</Ctry></PstlAdr></Dbtr><DbtrAcct><Id><IBAN>GB29NWBK60161331926819</IBAN></Id></DbtrAcct><RmtInf><Ustrd>Facture</Ustrd></RmtInf></DrctDbtTxInf>"
    ∷ ascii "<DrctDbtTxInf><PmtId><EndToEndId>FEE 2</EndToEndId></PmtId><InstdAmt Ccy=\"EUR\">0003.5</InstdAmt><DrctDbtTx><MndtRltdInf><MndtId>M-6</MndtId><DtOfSgntr>1989-07-03</DtOfSgntr></MndtRltdInf></DrctDbtTx><DbtrAgt><FinInstnId><Othr><Id>NOTPROVIDED</Id></Othr></FinInstnId></DbtrAgt><Dbtr><Nm>Bert</Nm></Dbtr><DbtrAcct><Id><IBAN>BE30001216371411</IBAN></Id></DbtrAcct></DrctDbtTxInf></PmtInf>"
    ∷ ascii "<PmtInf><PmtInfId>B</PmtInfId><PmtMtd>DD</PmtMtd><PmtTpInf><SvcLvl><Cd>SEPA</Cd></SvcLvl><LclInstrm><Cd>B2B</Cd></LclInstrm><SeqTp>FNAL</SeqTp></PmtTpInf><ReqdColltnDt>2026-12-01</ReqdColltnDt>"
    ∷ creditor
    ∷ ascii "<DrctDbtTxInf><PmtId><EndToEndId>FEE 3</EndToEndId></PmtId><InstdAmt Ccy=\"EUR\">0.50</InstdAmt><DrctDbtTx><MndtRltdInf><MndtId>M-7</MndtId><DtOfSgntr>1989-07-03</DtOfSgntr></MndtRltdInf></DrctDbtTx><DbtrAgt><FinInstnId><Othr><Id>NOTPROVIDED</Id></Othr></FinInstnId></DbtrAgt><Dbtr><Nm>Cora</Nm></Dbtr><DbtrAcct><Id><IBAN>BE30001216371411</IBAN></Id></DbtrAcct><RmtInf><Ustrd>Avoir</Ustrd></RmtInf></DrctDbtTxInf></PmtInf></CstmrDrctDbtInitn></Document>\n"
    ∷ [])

-- ─── its collections ───

abbrev first : Terms
first = record { scheme = 0; sequence = 0; date = ascii "2026-11-10" }

abbrev second : Terms
second = record { scheme = 1; sequence = 3; date = ascii "2026-12-01" }

abbrev collections : List (List Collection)
collections =
    (record {
      terms = first;
      cents = 328_000;
      end_to_end = ascii "FEE 1";
      mandate = ascii "M-5";
      signature_date = ascii "2009-09-01";
      bank = ascii "BANKGB2L";
      debtor_name = ascii "Anne";
      debtor_account = ascii "GB29NWBK60161331926819";
      remittance = ascii "Facture";
    }
    ∷ record {
      terms = first;
      cents = 350;
      end_to_end = ascii "FEE 2";
      mandate = ascii "M-6";
      signature_date = ascii "1989-07-03";
      bank = [];
      debtor_name = ascii "Bert";
      debtor_account = ascii "BE30001216371411";
      remittance = [];
    }
    ∷ [])
    ∷ (record {
      terms = second;
      cents = 50;
      end_to_end = ascii "FEE 3";
      mandate = ascii "M-7";
      signature_date = ascii "1989-07-03";
      bank = [];
      debtor_name = ascii "Cora";
      debtor_account = ascii "BE30001216371411";
      remittance = ascii "Avoir";
    }
    ∷ [])
    ∷ []

reads : carried_read two-batches (read declaration document two-batches) ≡ collections
unfolding kids
reads = refl

pub two-carried : (m : Message document) → message declaration m ≡ two-batches → carried_by m ≡ collections
two-carried m e = carried-read m ∙ ap (λ (s : Bytes). carried_read s (read declaration document s)) e ∙ reads
