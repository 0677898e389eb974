-- DAY LISTS, AND WHAT IS REPORTED OF EACH, computed: the number and place of a refusal, and the field of a value.
--   day_list                 the list of the examples: a creditor and two collections, the lines `creditor_line`, `first` and `second`
--   line_of s, frame s ts    a line of the digits s, ended by LF; a line of the digits s and of the texts ts, each after its length byte
--   in_words                the lines of the examples in words
--   told j                  how a judged list is reported; a good one as 0 and the number of its collections
--   earlier-first           the order of the stages
--   too_long, not_too_long, ceilings   21 and 22
--   not-frames              23: a line that is no frame of its kind, or lacks LF
--   few, many               24 and 25
--   leads, creditor-texts, collection_texts, in_order   51 to 58: each field of a line breaks its rule; some that obey it; the first of several
use Prim.Native.Nat.{ℕ, ◌/◌, ◌%◌, ◌≤◌, ◌<◌}
use Prim.Native.String.{String}
use mathlib.Core.List.{List, [], ◌∷◌, ◌++◌, map}
use mathlib.Core.Path.{◌≡◌, refl}
use lib.ListN.{length, get_or, set, replicate}
use borrow.Author.Tests.{le-leb, lt-leb}
use Rattle.std.specs.Prelude.{Err, Ok}
use Rattle.laws.specs.Bytes.{Bytes, ascii}
use Rattle.laws.specs.Lists.{concat, gather}
use Rattle.profile.specs.Refusals.{Fault, fault, list_fault_of}
use Rattle.daylist.specs.Stages.{JudgedList, judged_list}

-- ─── the list of the examples ───

abbrev line_of : String → Bytes
line_of s = ascii s ++ 10 ∷ []

abbrev pub creditor_line : Bytes
creditor_line =
    line_of "010B52554E2D323032362F303713323032362D31312D30325430393A33303A3030104C65616B204C616273204275726561750E4F274E65696C2054657374696E671042453638353339303037353437303334084242525542454242144245363930303030353044303030303030303038"

abbrev pub first : Bytes
first =
    line_of "020001000001ADB70A323032362D31312D3130054645452031074D2D35353535350A323030392D30392D3031000E4D72204465626974657572204E3116474232394E57424B36303136313333313932363831390A46616374757265204E31"

abbrev second : Bytes
second =
    line_of "02000100000347E00A323032362D31312D3130054645452032094D2D3636362F3636360A313938392D30372D30330842414E4B4742324C0E4D72204465626974657572204E32104245333030303132313633373134313100"

abbrev pub day_list : Bytes
day_list = concat (creditor_line ∷ first ∷ second ∷ [])

-- ─── lines in words ───

abbrev digits : ℕ → Bytes
digits b = map (λ n. get_or (ascii "0123456789ABCDEF") n 0) (b / 16 ∷ b % 16 ∷ [])

abbrev text_of : String → Bytes
text_of s = gather digits (length (ascii s) ∷ ascii s)

abbrev frame : String → List String → Bytes
frame lead ts = concat (ascii lead ∷ gather text_of ts ∷ (10 ∷ []) ∷ [])

abbrev creditor_texts : List String
creditor_texts = "RUN-2026/07" ∷ "2026-11-02T09:30:00" ∷ "Leak Labs Bureau" ∷ "O'Neil Testing" ∷ "BE68539007547034" ∷ "BBRUBEBB" ∷ "BE69000050D000000008" ∷ []

abbrev first_texts : List String
first_texts = "2026-11-10" ∷ "FEE 1" ∷ "M-55555" ∷ "2009-09-01" ∷ "" ∷ "Mr Debiteur N1" ∷ "GB29NWBK60161331926819" ∷ "Facture N1" ∷ []

abbrev second_texts : List String
second_texts = "2026-11-10" ∷ "FEE 2" ∷ "M-666/666" ∷ "1989-07-03" ∷ "BANKGB2L" ∷ "Mr Debiteur N2" ∷ "BE30001216371411" ∷ "" ∷ []

-- kind, scheme, sequence and cents stand before a collection's texts
in_words : (creditor_line ≡ frame "01" creditor_texts) × (first ≡ frame "020001000001ADB7" first_texts) × (second ≡ frame "02000100000347E0" second_texts)
in_words = (refl, refl, refl)

-- ─── what is reported ───

abbrev told : JudgedList → Fault
told (Ok n) = fault 0 n
told (Err r) = list_fault_of r

-- a value: its number, its line and its field
abbrev value : ℕ → ℕ → ℕ → Fault
value n line i = record { number = n; place = line; field = i }

-- at the ceiling 1
abbrev told_of : List Bytes → Fault
told_of ls = told (judged_list (concat ls) 1)

abbrev Told : List (List Bytes × Fault) → Type 0
Told t = map (λ p. told_of p.0) t ≡ map (λ p. p.1) t

-- ─── the order of the stages ───

-- frames of empty texts, and cents 0
abbrev bare_creditor : Bytes
bare_creditor = line_of "0100000000000000"

abbrev bare : Bytes
bare = line_of "02000000000000000000000000000000"

-- 23 and 24 before the values
earlier-first : Told (
    (bare_creditor ∷ bare ∷ line_of "" ∷ [], fault 23 3) ∷ (bare_creditor ∷ [], fault 24 1) ∷ (bare_creditor ∷ bare ∷ [], value 51 1 1) ∷ [])
earlier-first = refl

-- ─── 21 and 22 ───

too_long : (s : Bytes) (c : ℕ) → 1_048_576 < length s → told (judged_list s c) ≡ fault 21 0
too_long s c h = rw (lt-leb (length s) 1_048_576 h)

not_too_long : (s : Bytes) → length s ≤ 1_048_576 → told (judged_list s 0) ≡ fault 22 0
not_too_long s h = rw (le-leb (length s) 1_048_576 h)

ceilings : map (λ c. told (judged_list day_list c)) (0 ∷ 1 ∷ 500 ∷ 501 ∷ []) ≡ fault 22 0 ∷ fault 0 2 ∷ fault 0 2 ∷ fault 22 0 ∷ []
ceilings = refl

-- ─── 23 ───

not-frames : Told (
    (line_of "" ∷ [], fault 23 1)
    ∷ (creditor_line ∷ ascii "02" ∷ [], fault 23 2)  -- LF is missing
    ∷ (line_of "01014a000000000000" ∷ [], fault 23 1)  -- a small letter
    ∷ (ascii "0100000000000000" ∷ (13 ∷ 10 ∷ []) ∷ [], fault 23 1)  -- CR before LF
    ∷ (creditor_line ∷ line_of "020" ∷ [], fault 23 2)  -- an odd number of digits
    ∷ (creditor_line ∷ line_of "" ∷ first ∷ [], fault 23 2)  -- an empty line
    ∷ (line_of "010000000000000000" ∷ [], fault 23 1)  -- a byte too many
    ∷ (line_of "01000000000000" ∷ [], fault 23 1)  -- a text too few
    ∷ (line_of "0100000000000001" ∷ [], fault 23 1)  -- a text that runs past the end
    ∷ (first ∷ first ∷ [], fault 23 1)  -- a collection as line 1
    ∷ (creditor_line ∷ first ∷ creditor_line ∷ line_of "" ∷ [], fault 23 3)  -- a creditor frame after line 1; the first of two
    ∷ (creditor_line ∷ line_of "03000000000000000000000000000000" ∷ [], fault 23 2)  -- another kind
    ∷ [])
not-frames = refl

-- ─── 24 and 25 ───

few : Told (([], fault 24 0) ∷ (creditor_line ∷ [], fault 24 1) ∷ (line_of "01014A000000000000" ∷ [], fault 24 1) ∷ (creditor_line ∷ first ∷ [], fault 0 1) ∷ [])
few = refl

-- 23 before 25 before the values
many : Told (
    (creditor_line ∷ replicate 1_000 bare, value 54 2 3)
    ∷ (creditor_line ∷ replicate 1_001 bare, fault 25 1_002)
    ∷ (creditor_line ∷ line_of "" ∷ replicate 1_001 bare, fault 23 2)
    ∷ [])
many = refl

-- ─── 51 to 58 ───

-- the example with these digits of kind, scheme, sequence and cents in line 3
abbrev led_by : String → List Bytes
led_by s = creditor_line ∷ first ∷ frame s first_texts ∷ []

leads : Told (
    (led_by "0201010000000001", fault 0 2)
    ∷ (led_by "0202010000000001", value 56 3 1)  -- scheme 2
    ∷ (led_by "0200030000000001", fault 0 2)
    ∷ (led_by "0200040000000001", value 56 3 2)  -- sequence 4
    ∷ (led_by "0200010000000000", value 54 3 3)  -- no cents
    ∷ (led_by "020001174876E7FF", fault 0 2)
    ∷ (led_by "020001174876E800", value 54 3 3)  -- a cent too many (★12)
    ∷ (led_by "0200040000000000", value 56 3 2)  -- the first of two
    ∷ [])
leads = refl

-- the example with another text i, from 0, in line 1; and in line 2
abbrev creditor_but : ℕ → String → List Bytes
creditor_but i s = frame "01" (set creditor_texts i s) ∷ first ∷ []

abbrev first_but : ℕ → String → List Bytes
first_but i s = creditor_line ∷ frame "020001000001ADB7" (set first_texts i s) ∷ []

creditor-texts : Told (
    (creditor_but 0 "/A", value 53 1 1)
    ∷ (creditor_but 1 "2026-11-02", value 55 1 2)
    ∷ (creditor_but 2 "", value 51 1 3)
    ∷ (creditor_but 2 "//", fault 0 1)
    ∷ (creditor_but 3 "_", value 52 1 4)
    ∷ (creditor_but 3 "//", fault 0 1)
    ∷ (creditor_but 4 "", value 57 1 5)
    ∷ (creditor_but 4 "BE86539007547034", value 58 1 5)
    ∷ (creditor_but 5 "", fault 0 1)  -- NOTPROVIDED
    ∷ (creditor_but 5 "NOTPROVIDED", value 57 1 6)
    ∷ (creditor_but 6 "", value 57 1 7)
    ∷ (creditor_but 6 "fr00ZZZ123456", value 57 1 7)
    ∷ (creditor_but 6 "FR00ZZZ123456", value 58 1 7)
    ∷ (creditor_but 6 "FR72ZZZ123456", fault 0 1)
    ∷ [])
creditor-texts = refl

collection_texts : Told (
    (first_but 0 "2026-02-30", value 55 2 4)
    ∷ (first_but 1 "/A", value 53 2 5)
    ∷ (first_but 2 "A//B", value 53 2 6)
    ∷ (first_but 3 "", value 55 2 7)
    ∷ (first_but 4 "BANKGB2L", fault 0 1)
    ∷ (first_but 4 "NOTPROVIDED", value 57 2 8)
    ∷ (first_but 5 "", value 51 2 9)
    ∷ (first_but 5 "//", fault 0 1)
    ∷ (first_but 6 "", value 57 2 10)
    ∷ (first_but 6 "GB92NWBK60161331926819", value 58 2 10)
    ∷ (first_but 7 "", fault 0 1)  -- no remittance
    ∷ (first_but 7 "_", value 52 2 11)
    ∷ (first_but 7 "12345678901234567890123456789012345678901234567890123456789012345678901", fault 0 1)  -- longer than a name
    ∷ [])
collection_texts = refl

-- within a text length, then letters, then slashes; a shape before its check digits; within a line the first field; of two lines the first
in_order : Told (
    (creditor_but 3 "1234567890123456789012345678901234567890123456789012345678901234567890_", value 51 1 4)
    ∷ (first_but 1 "/234567890123456789012345678901234_", value 52 2 5)
    ∷ (first_but 1 "/234567890123456789012345678901234/", value 53 2 5)
    ∷ (first_but 6 "GB92NWBK6016133192681_", value 57 2 10)
    ∷ (frame "01" ("/a" ∷ replicate 6 "") ∷ first ∷ [], value 53 1 1)
    ∷ (creditor_line ∷ frame "020001000001ADB7" (set (set first_texts 5 "") 2 "A//B") ∷ [], value 53 2 6)
    ∷ (creditor_line ∷ first ∷ frame "020201000001ADB7" (set first_texts 0 "") ∷ frame "020001000001ADB7" (set first_texts 1 "") ∷ [], value 56 3 1)
    ∷ [])
in_order = refl
