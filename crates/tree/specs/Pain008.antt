-- THE PROFILE TREE of document 01, with the addresses of request 3, as a value of the description, laid out like its list. To be believed; definitions only.
--   box nm is, txt nm r        an element that holds elements; an element with a text of the rule r
--   p plays e                  the element e, which plays the part p
--   a then .., a optional ..   children in order: a stands once; a may be missing (`?`)
--   only a, repeated a         the last child: a stands once; a stands one or more times
--   up_to_two a                  the last child: a stands not at all, once or twice
--   a or b                     `|`
--   document, declaration      the root and the declaration
use Rattle.std.specs.Prelude.{ℕ, []}
use Prim.Native.String.{String}
use Rattle.laws.specs.Bytes.{Bytes, ascii}
use Rattle.text.specs.declared.Rule.{Rule}
use Rattle.text.specs.declared.Rule.TheVariants.{Identifier, Name, Remittance, Count, Sum, Amount, Date, Time, Iban, Bic, CreditorIdentifier, Method, Booking, Sepa, Scheme, Sequence, Charges, NotProvided, AddressLine, AddressCode, Town, Country}
use Rattle.tree.specs.Form.{Elem, Items, Elem.elem, Items.none, Items.item, How.once, How.maybe, How.at_most_two, How.one_or_more, How.this_or_next}
use Rattle.tree.specs.declared.Kind.TheVariants.{Holds, Text}
use Rattle.tree.specs.Parts.{message_count, message_sum, batch, batch_count, batch_sum, scheme, sequence, collection_date, transaction, end_to_end, amount, mandate, signature_date, debtor_bank, debtor_name, debtor_account, remittance, address, address_detail, town, country, address_line}

-- ─── how an element is written down ───

abbrev pub txt : String → Rule → Elem
txt nm r = elem 0 (ascii nm) [] (Text r) none

abbrev pub box : String → Items → Elem
box nm is = elem 0 (ascii nm) [] Holds is

infixr 30 ◌plays◌
abbrev pub ◌plays◌ : ℕ → Elem → Elem
p plays elem q nm at k is = elem p nm at k is

infixr 20 ◌then◌
abbrev pub ◌then◌ : Elem → Items → Items
e then is = item once e is

infixr 20 ◌optional◌
abbrev pub ◌optional◌ : Elem → Items → Items
e optional is = item maybe e is

infixr 20 ◌or◌
abbrev pub ◌or◌ : Elem → Elem → Items
a or b = item this_or_next a (item once b none)

abbrev pub only : Elem → Items
only e = item once e none

abbrev pub repeated : Elem → Items
repeated e = item one_or_more e none

abbrev pub up_to_two : Elem → Items
up_to_two e = item at_most_two e none

-- ─── the tree ───

-- bank: FinInstnId(BICFI | Othr(Id)); the BICFI plays the part p
abbrev pub bank : ℕ → Items
bank p = only (box "FinInstnId" (p plays txt "BICFI" Bic or box "Othr" (only (txt "Id" NotProvided))))

-- Id(IBAN); the IBAN plays the part p
abbrev pub account : ℕ → Items
account p = only (box "Id" (only (p plays txt "IBAN" Iban)))

-- "PstlAdr after Nm in Cdtr and Dbtr, with StrtNm?, BldgNb?, PstCd?, TwnNm?, Ctry?, then up to two AdrLine" (request 3)
abbrev pub pstl_adr : Elem
pstl_adr =
    address plays box "PstlAdr" (
    address_detail plays txt "StrtNm" AddressLine optional
    address_detail plays txt "BldgNb" AddressCode optional
    address_detail plays txt "PstCd" AddressCode optional
    town plays txt "TwnNm" Town optional
    country plays txt "Ctry" Country optional
    up_to_two (address_line plays txt "AdrLine" AddressLine))

-- Nm, PstlAdr?; the Nm plays the part p
abbrev pub party : ℕ → Items
party p = p plays txt "Nm" Name then pstl_adr optional none

abbrev pub grp_hdr : Elem
grp_hdr =
    box "GrpHdr" (
    txt "MsgId" Identifier then
    txt "CreDtTm" Time then
    message_count plays txt "NbOfTxs" Count then
    message_sum plays txt "CtrlSum" Sum then
    only (box "InitgPty" (only (txt "Nm" Name))))

abbrev pub pmt_tp_inf : Elem
pmt_tp_inf =
    box "PmtTpInf" (
    box "SvcLvl" (only (txt "Cd" Sepa)) then
    box "LclInstrm" (only (scheme plays txt "Cd" Scheme)) then
    only (sequence plays txt "SeqTp" Sequence))

abbrev pub cdtr_schme_id : Elem
cdtr_schme_id =
    box "CdtrSchmeId" (only (box "Id" (only (box "PrvtId" (only (box "Othr" (
    txt "Id" CreditorIdentifier then
    only (box "SchmeNm" (only (txt "Prtry" Sepa))))))))))

abbrev pub drct_dbt_tx_inf : Elem
drct_dbt_tx_inf =
    transaction plays box "DrctDbtTxInf" (
    box "PmtId" (txt "InstrId" Identifier optional only (end_to_end plays txt "EndToEndId" Identifier)) then
    elem amount (ascii "InstdAmt") (ascii " Ccy=\"EUR\"") (Text Amount) none then
    box "DrctDbtTx" (only (box "MndtRltdInf" (mandate plays txt "MndtId" Identifier then only (signature_date plays txt "DtOfSgntr" Date)))) then
    box "DbtrAgt" (bank debtor_bank) then
    box "Dbtr" (party debtor_name) then
    box "DbtrAcct" (account debtor_account) then
    box "RmtInf" (only (remittance plays txt "Ustrd" Remittance)) optional none)

abbrev pub pmt_inf : Elem
pmt_inf =
    batch plays box "PmtInf" (
    txt "PmtInfId" Identifier then
    txt "PmtMtd" Method then
    txt "BtchBookg" Booking optional
    batch_count plays txt "NbOfTxs" Count optional
    batch_sum plays txt "CtrlSum" Sum optional
    pmt_tp_inf then
    collection_date plays txt "ReqdColltnDt" Date then
    box "Cdtr" (party 0) then
    box "CdtrAcct" (account 0) then
    box "CdtrAgt" (bank 0) then
    txt "ChrgBr" Charges then
    cdtr_schme_id then
    repeated drct_dbt_tx_inf)

abbrev pub document : Elem
document =
    elem 0 (ascii "Document") (ascii " xmlns=\"urn:iso:std:iso:20022:tech:xsd:pain.008.001.08\"") Holds
    (only (box "CstmrDrctDbtInitn" (grp_hdr then repeated pmt_inf)))

abbrev pub declaration : Bytes
declaration = ascii "<?xml version=\"1.0\" encoding=\"UTF-8\"?>"
