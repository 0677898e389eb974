-- THE TEXT RULES of document 01, section "Texts", in its order, with the check digits of request 2 and the texts of an address of request 3. To be believed; definitions only.
-- A rule judges a text: `Ok n`, n being the number that the text states (0 where it states none), or `Err` with the kind of the first test that fails.
-- "For plain texts the tests go length in bytes, then letter set, then slashes; codes, numbers, dates and shapes have one test each, and the check digits follow the shape" (request 1).
--   identifier, name, remittance         plain texts of the letter set
--   address_line, address_code, town       those of an address
--   count, sum, amount                   NbOfTxs states its number, CtrlSum and InstdAmt their cents
--   date, time                           a date states year, month and day as the number yyyymmdd
--   iban, bic, creditor_identifier, country   shapes; an IBAN and a creditor identifier have check digits too
--   leaves, without_business_code          what a number leaves on division by 97; what of a creditor identifier counts for it
--   method .. not_provided                codes: each states its place, from 0, among the words listed
--   judged r s                           the text s judged by the rule r
use Rattle.std.specs.Prelude.{ℕ, suc, ◌+◌, ◌-◌, ◌*◌, ◌%◌, Bool, true, false, not, ◌&&◌, ◌||◌, List, [], ◌∷◌, ◌++◌, map, eqb, length, take, drop, get_or, Result, Ok, Err}
use Prim.Native.String.{String}
use Rattle.laws.specs.Bytes.{Bytes, ascii, between, all, span, same}
use Rattle.marks.specs.Marks.{digit, capital_or_digit, letter_or_digit, letter, slashed, fits, value, spelled}
use Rattle.profile.specs.Limits.{most_cents}
use Rattle.profile.specs.declared.Flaw.{Flaw}
use Rattle.profile.specs.declared.Flaw.TheVariants.{Length, Letter, Slash, Number, Date, Code, Shape, CheckDigits}
use Rattle.text.specs.declared.Rule.{Rule}
use Rattle.text.specs.declared.Rule.TheVariants.{Identifier, Name, Remittance, Count, Sum, Amount, Date as Day, Time, Iban, Bic, CreditorIdentifier, Method, Booking, Sepa, Scheme, Sequence, Charges, NotProvided, AddressLine, AddressCode, Town, Country}

-- what a text is judged: good, with the number that it states, or the kind of the first test that it fails
abbrev pub Judged : Type 0
Judged = Result ℕ Flaw

-- a test: where it fails, the text has the flaw f
abbrev pub must : Bool → Flaw → Judged → Judged
must true f j = j
must false f j = Err f

-- the text breaks no rule
abbrev pub good : Judged → Bool
good (Ok n) = true
good (Err f) = false

-- what it states, 0 where it breaks its rule
abbrev pub number_told : Judged → ℕ
number_told (Ok n) = n
number_told (Err f) = 0

-- ─── plain texts ───

-- 1 to n bytes of the letter set
abbrev pub plain : ℕ → Bytes → Judged
plain n s = must (between 1 n (length s)) Length (must (all letter s) Letter (Ok 0))

abbrev pub identifier : Bytes → Judged
identifier s = must (between 1 35 (length s)) Length (must (all letter s) Letter (must (not (slashed s)) Slash (Ok 0)))

abbrev pub name : Bytes → Judged
name s = plain 70 s

abbrev pub remittance : Bytes → Judged
remittance s = plain 140 s

-- "of the letter set, 1 to 70, 16, 16, 35 and, for lines, 70 characters" (request 3)
abbrev pub address_line : Bytes → Judged
address_line s = plain 70 s

abbrev pub address_code : Bytes → Judged
address_code s = plain 16 s

abbrev pub town : Bytes → Judged
town s = plain 35 s

-- ─── numbers: 46 is the point, 48 the digit 0 ───

abbrev pub count : Bytes → Judged
count s = must (between 1 15 (length s) && all digit s) Number (Ok (value s))

-- what may stand after the whole euros: nothing, or a point and one or two digits; and the cents that it is worth
abbrev pub decimals : Bytes → Bool
decimals [] = true
decimals (c ∷ s) = eqb c 46 && (between 1 2 (length s) && all digit s)

abbrev pub hundredths : Bytes → ℕ
hundredths s = (get_or s 1 48 - 48) * 10 + (get_or s 2 48 - 48)

-- 1 to n digits, then optionally a point and 1 or 2 digits
abbrev pub in_euros : ℕ → Bytes → Bool
in_euros n s = between 1 n (span digit s) && decimals (drop (span digit s) s)

abbrev pub cents : Bytes → ℕ
cents s = value (take (span digit s) s) * 100 + hundredths (drop (span digit s) s)

abbrev pub sum : Bytes → Judged
sum s = must (in_euros 15 s) Number (Ok (cents s))

abbrev pub amount : Bytes → Judged
amount s = must (in_euros 9 s && between 1 most_cents (cents s)) Number (Ok (cents s))

-- ─── dates ───

-- the number that the n bytes from the place a on spell
abbrev pub value_at : ℕ → ℕ → Bytes → ℕ
value_at a n s = value (take n (drop a s))

abbrev pub leap : ℕ → Bool
leap y = eqb (y % 4) 0 && (not (eqb (y % 100) 0) || eqb (y % 400) 0)

abbrev pub february : Bool → ℕ
february true = 29
february false = 28

-- the days of a month, counted from 1
abbrev pub days : ℕ → ℕ → ℕ
days y m = get_or (31 ∷ february (leap y) ∷ 31 ∷ 30 ∷ 31 ∷ 30 ∷ 31 ∷ 31 ∷ 30 ∷ 31 ∷ 30 ∷ 31 ∷ []) (m - 1) 0

-- a real Gregorian day, years 1900 to 2099
abbrev pub real_day : ℕ → ℕ → ℕ → Bool
real_day y m d = between 1900 2099 y && (between 1 12 m && between 1 (days y m) d)

abbrev pub dated : Bytes → Bool
dated s = fits (ascii "DDDD-DD-DD") s && real_day (value_at 0 4 s) (value_at 5 2 s) (value_at 8 2 s)

abbrev pub date : Bytes → Judged
date s = must (dated s) Date (Ok (value_at 0 4 s * 10_000 + value_at 5 2 s * 100 + value_at 8 2 s))

abbrev pub clock : Bytes → Bool
clock s = fits (ascii "TDD:DD:DD") s && (between 0 23 (value_at 1 2 s) && (between 0 59 (value_at 4 2 s) && between 0 59 (value_at 7 2 s)))

abbrev pub time : Bytes → Judged
time s = must (dated (take 10 s) && clock (drop 10 s)) Date (Ok 0)

-- ─── IBAN, BICFI, creditor identifier, country ───

-- what the number leaves on division by 97, the first four moved to the end
abbrev pub leaves : Bytes → ℕ
leaves s = spelled (drop 4 s ++ take 4 s) % 97

abbrev pub iban : Bytes → Judged
iban s =
    must (fits (ascii "AADD") (take 4 s) && (between 1 30 (length (drop 4 s)) && all letter_or_digit (drop 4 s))) Shape
    (must (eqb (leaves s) 1) CheckDigits (Ok 0))

abbrev pub bic : Bytes → Judged
bic s = must ((fits (ascii "NNNNAANN") s || fits (ascii "NNNNAANNNNN") s) && not (same s (ascii "NOTPROVIDED"))) Shape (Ok 0)

-- characters 5 to 7 left out
abbrev pub without_business_code : Bytes → Bytes
without_business_code s = take 4 s ++ drop 7 s

-- "leaves out the business code, characters 5 to 7, moves the first four to the end, reads letters as 10 to 35 and asks for 1 on division by 97" (request 2)
abbrev pub creditor_identifier : Bytes → Judged
creditor_identifier s =
    must (fits (ascii "AADDNNN") (take 7 s) && (between 1 28 (length (drop 7 s)) && all capital_or_digit (drop 7 s))) Shape
    (must (eqb (leaves (without_business_code s)) 1) CheckDigits (Ok 0))

-- "Ctry is two capitals" (request 3)
abbrev pub country : Bytes → Judged
country s = must (fits (ascii "AA") s) Shape (Ok 0)

-- ─── codes ───

-- one of the words, of which n stand before these
abbrev pub code_from : ℕ → List Bytes → Bytes → Judged
code_from n [] s = Err Code
code_from n (w ∷ ws) s = elim (same s w) [ true ↦ Ok n | false ↦ code_from (suc n) ws s ]

abbrev pub one_of : List String → Bytes → Judged
one_of ws s = code_from 0 (map ascii ws) s

abbrev pub method : Bytes → Judged
method s = one_of ("DD" ∷ []) s

abbrev pub booking : Bytes → Judged
booking s = one_of ("true" ∷ "false" ∷ []) s

abbrev pub sepa : Bytes → Judged
sepa s = one_of ("SEPA" ∷ []) s

abbrev pub scheme : Bytes → Judged
scheme s = one_of ("CORE" ∷ "B2B" ∷ []) s

abbrev pub sequence : Bytes → Judged
sequence s = one_of ("FRST" ∷ "RCUR" ∷ "OOFF" ∷ "FNAL" ∷ []) s

abbrev pub charges : Bytes → Judged
charges s = one_of ("SLEV" ∷ []) s

abbrev pub not_provided : Bytes → Judged
not_provided s = one_of ("NOTPROVIDED" ∷ []) s

-- ─── each rule by its name ───

abbrev pub judged : Rule → Bytes → Judged
judged Identifier s = identifier s
judged Name s = name s
judged Remittance s = remittance s
judged Count s = count s
judged Sum s = sum s
judged Amount s = amount s
judged Day s = date s
judged Time s = time s
judged Iban s = iban s
judged Bic s = bic s
judged CreditorIdentifier s = creditor_identifier s
judged Method s = method s
judged Booking s = booking s
judged Sepa s = sepa s
judged Scheme s = scheme s
judged Sequence s = sequence s
judged Charges s = charges s
judged NotProvided s = not_provided s
judged AddressLine s = address_line s
judged AddressCode s = address_code s
judged Town s = town s
judged Country s = country s
