-- TEXTS AT BOTH SIDES OF EACH BOUND, computed: of every rule a table of texts and of what it judges them to be.
--   r judges t      the rule r judges each text of the table t as the table says
--   letter-set      of the 256 bytes a-z A-Z 0-9 / - ? : ( ) . , ' + and space are letters, 73 in all
--   lengths         plain texts of the most bytes, of one more, whatever its letters, and of none; only an identifier looks at slashes, and spaces count
--   identifiers, counts, sums, amounts, dates, times, ibans, bics, creditor-identifiers, printed-identifiers, codes
--   address-lengths, address-letters, countries   the texts of an address
use Prim.Native.Nat.{ℕ}
use Prim.Native.String.{String}
use mathlib.Core.Bool.{true, false, ◌||◌, beq}
use mathlib.Core.List.{List, [], ◌∷◌, map}
use mathlib.Core.Path.{◌≡◌, refl}
use lib.Dec.{T, eqb}
use lib.ListN.{length, replicate}
use Rattle.std.specs.Prelude.{Err, Ok}
use Rattle.laws.specs.Bytes.{ascii, between, has}
use Rattle.laws.proofs.Below.{every}
use Rattle.marks.specs.Marks.{letters}
use Rattle.profile.specs.declared.Flaw.TheVariants.{Length, Letter, Slash, Number, Date, Code, Shape, CheckDigits}
use Rattle.text.specs.declared.Rule.{Rule}
use Rattle.text.specs.declared.Rule.TheVariants.{Identifier, Name, Remittance, Count, Sum, Amount, Date as Day, Time, Iban, Bic, CreditorIdentifier, Method, Booking, Sepa, Scheme, Sequence, Charges, NotProvided, AddressLine, AddressCode, Town, Country}
use Rattle.text.specs.Rules.{Judged, good, leaves, without_business_code, judged}

infix 10 ◌judges◌
abbrev ◌judges◌ : Rule → List (String × Judged) → Type 0
r judges t = map (λ p. judged r (ascii p.0)) t ≡ map (λ p. p.1) t

-- ─── plain texts ───

-- a name of one byte is good exactly where the byte is a letter
pub letter-set :
    T (every 256 (λ c. beq (good (judged Name (c ∷ []))) (between 97 122 c || (between 65 90 c || (between 48 57 c || has (ascii "/-?:().,'+ ") c)))))
    × (length letters ≡ 73)
letter-set = (tt, refl)

pub lengths :
    (judged Identifier (replicate 35 65) ≡ Ok 0) × (judged Identifier (replicate 36 65) ≡ Err Length)
    × (judged Name (replicate 70 32) ≡ Ok 0) × (judged Name (replicate 71 32) ≡ Err Length) × (judged Name (95 ∷ replicate 70 32) ≡ Err Length)
    × (judged Remittance (replicate 140 47) ≡ Ok 0) × (judged Remittance (replicate 141 47) ≡ Err Length)
    × (judged Identifier [] ≡ Err Length) × (judged Name [] ≡ Err Length) × (judged Remittance [] ≡ Err Length)
lengths = (refl, refl, refl, refl, refl, refl, refl, refl, refl, refl)

-- the flaws in order: length, letters, slashes
pub identifiers : Identifier judges (
    ("A/B", Ok 0) ∷ (" ", Ok 0) ∷ ("/A", Err Slash) ∷ ("A/", Err Slash) ∷ ("A//B", Err Slash) ∷ ("/", Err Slash)
    ∷ ("/A_", Err Letter) ∷ ("/23456789_123456789_123456789_12345", Err Letter) ∷ ("_23456789_123456789_123456789_12345/", Err Length)
    ∷ [])
identifiers = refl

pub address-lengths :
    (judged AddressLine (replicate 70 47) ≡ Ok 0) × (judged AddressLine (replicate 71 65) ≡ Err Length)
    × (judged AddressCode (replicate 16 47) ≡ Ok 0) × (judged AddressCode (replicate 17 65) ≡ Err Length)
    × (judged Town (replicate 35 47) ≡ Ok 0) × (judged Town (replicate 36 65) ≡ Err Length)
    × (judged AddressLine [] ≡ Err Length) × (judged AddressCode [] ≡ Err Length) × (judged Town [] ≡ Err Length)
address-lengths = (refl, refl, refl, refl, refl, refl, refl, refl, refl)

pub address-letters :
    (AddressLine judges (("12/3 Rue d'Aire", Ok 0) ∷ ("//", Ok 0) ∷ ("a_b", Err Letter) ∷ []))
    × (AddressCode judges (("SW1A 2AA", Ok 0) ∷ ("7/9", Ok 0) ∷ ("1&2", Err Letter) ∷ ("12345678901234567", Err Length) ∷ []))
    × (Town judges (("Geneva", Ok 0) ∷ ("Gen;ve", Err Letter) ∷ []))
address-letters = (refl, refl, refl)

pub countries : Country judges (
    ("CH", Ok 0) ∷ ("AZ", Ok 0) ∷ ("ch", Err Shape) ∷ ("Ch", Err Shape) ∷ ("C1", Err Shape) ∷ ("C", Err Shape) ∷ ("CHE", Err Shape) ∷ ("", Err Shape) ∷ (" CH", Err Shape)
    ∷ [])
countries = refl

-- ─── numbers ───

pub counts : Count judges (
    ("0", Ok 0) ∷ ("007", Ok 7) ∷ ("999999999999999", Ok 999_999_999_999_999) ∷ ("0000000000000007", Err Number)
    ∷ ("", Err Number) ∷ ("1.0", Err Number) ∷ ("+1", Err Number)
    ∷ [])
counts = refl

pub sums : Sum judges (
    ("0", Ok 0) ∷ ("0.5", Ok 50) ∷ ("3280", Ok 328_000) ∷ ("3280.0", Ok 328_000) ∷ ("3280.00", Ok 328_000) ∷ ("0003280.00", Ok 328_000)
    ∷ ("999999999999999.99", Ok 99_999_999_999_999_999) ∷ ("1000000000000000", Err Number) ∷ ("0000000000000001.00", Err Number)
    ∷ ("", Err Number) ∷ ("1.", Err Number) ∷ (".5", Err Number) ∷ ("3250.150", Err Number) ∷ ("1,50", Err Number) ∷ ("-1", Err Number)
    ∷ [])
sums = refl

pub amounts : Amount judges (
    ("0", Err Number) ∷ ("0.00", Err Number) ∷ ("0.01", Ok 1) ∷ ("0.5", Ok 50) ∷ ("3280", Ok 328_000)
    ∷ ("999999999.99", Ok 99_999_999_999) ∷ ("1000000000", Err Number) ∷ ("000000001", Ok 100) ∷ ("0000000001", Err Number)
    ∷ ("", Err Number) ∷ ("1.", Err Number) ∷ (".5", Err Number) ∷ ("1.005", Err Number)
    ∷ [])
amounts = refl

-- ─── dates ───

pub dates : Day judges (
    ("1899-12-31", Err Date) ∷ ("1900-01-01", Ok 19_000_101) ∷ ("2099-12-31", Ok 20_991_231) ∷ ("2100-01-01", Err Date)
    -- 29 February
    ∷ ("1900-02-28", Ok 19_000_228) ∷ ("1900-02-29", Err Date) ∷ ("2000-02-29", Ok 20_000_229) ∷ ("2023-02-29", Err Date)
    ∷ ("2024-02-29", Ok 20_240_229) ∷ ("2024-02-30", Err Date)
    -- months and their ends
    ∷ ("2026-00-10", Err Date) ∷ ("2026-13-10", Err Date) ∷ ("2026-01-00", Err Date) ∷ ("2026-01-31", Ok 20_260_131) ∷ ("2026-01-32", Err Date)
    ∷ ("2026-04-30", Ok 20_260_430) ∷ ("2026-04-31", Err Date) ∷ ("2026-06-31", Err Date) ∷ ("2026-09-31", Err Date) ∷ ("2026-11-31", Err Date)
    -- shapes
    ∷ ("", Err Date) ∷ ("2026-2-01", Err Date) ∷ ("20260201", Err Date) ∷ ("2026/02/01", Err Date) ∷ ("2026-02-01Z", Err Date)
    ∷ [])
dates = refl

pub times : Time judges (
    ("2026-11-02T00:00:00", Ok 0) ∷ ("2026-11-02T23:59:59", Ok 0)
    ∷ ("2026-11-02T24:00:00", Err Date) ∷ ("2026-11-02T23:60:00", Err Date) ∷ ("2026-11-02T23:59:60", Err Date)
    ∷ ("2026-11-31T09:30:00", Err Date) ∷ ("2026-11-02T09:30:00Z", Err Date) ∷ ("2026-11-02T09:30", Err Date) ∷ ("2026-11-02 09:30:00", Err Date)
    ∷ [])
times = refl

-- ─── shapes ───

-- 5 to 34 bytes, the country in capitals, all else of either case
pub ibans : Iban judges (
    ("BE540", Ok 0) ∷ ("BE54", Err Shape) ∷ ("LC04ABCDEFGHIJKLMNOPQRSTUVWXYZ0123", Ok 0) ∷ ("LC08ABCDEFGHIJKLMNOPQRSTUVWXYZ01234", Err Shape)
    ∷ ("GB29NWBK60161331926819", Ok 0) ∷ ("GB29nwbk60161331926819", Ok 0) ∷ ("gb29NWBK60161331926819", Err Shape)
    ∷ ("GB92NWBK60161331926819", Err CheckDigits) ∷ ("BE550", Err CheckDigits) ∷ ("GB29 NWBK60161331926819", Err Shape) ∷ ("gb92NWBK60161331926819", Err Shape) ∷ ("", Err Shape)
    ∷ [])
ibans = refl

pub bics : Bic judges (
    ("BANKGB2L", Ok 0) ∷ ("BANKGB2LXXX", Ok 0) ∷ ("B4NKGB2L001", Ok 0)
    ∷ ("BANKGB2", Err Shape) ∷ ("BANKGB2LX", Err Shape) ∷ ("BANKGB2LXX", Err Shape) ∷ ("BANKGB2LXXXX", Err Shape)
    ∷ ("BANKG82L", Err Shape) ∷ ("bankGB2L", Err Shape) ∷ ("NOTPROVIDED", Err Shape) ∷ ("", Err Shape)
    ∷ [])
bics = refl

-- 8 to 35 bytes; whatever its business code; of a bad shape and bad check digits the shape
pub creditor-identifiers : CreditorIdentifier judges (
    ("BE16ZZZ", Err Shape) ∷ ("BE16ZZZ5", Ok 0) ∷ ("BE19ZZZ2345678901234567890123456789", Ok 0) ∷ ("BE92ZZZ23456789012345678901234567890", Err Shape)
    ∷ ("BE16A075", Ok 0) ∷ ("BE16ZZz5", Err Shape) ∷ ("BE16ZZZd", Err Shape) ∷ ("be16ZZZ5", Err Shape) ∷ ("be17ZZZ5", Err Shape) ∷ ("", Err Shape)
    -- each leaves 1 in one way alone: the business code kept, the first four not moved
    ∷ ("BE65ZZZ5", Err CheckDigits) ∷ ("BE72ZZZ5", Err CheckDigits)
    -- 97 apart
    ∷ ("BE00ZZZ2", Ok 0) ∷ ("BE97ZZZ2", Ok 0) ∷ ("BE02ZZZ63", Ok 0) ∷ ("BE99ZZZ63", Ok 0)
    ∷ [])
creditor-identifiers = refl

-- those that the papers print, and what each leaves
abbrev printed : List (String × ℕ)
printed =
    ("DE98ZZZ09999999999", 1) ∷ ("BE120010456810810", 1) ∷ ("BE69000050D000000008", 1)
    ∷ ("FR00ZZZ123456", 26) ∷ ("BE73ZZZ123456789012", 21) ∷ ("BE11ZZZ73123456789012", 54) ∷ ("BE11ZZZ123456789", 41) ∷ ("BE78000050D000000008", 10)
    ∷ []

pub printed-identifiers :
    (map (λ p. leaves (without_business_code (ascii p.0))) printed ≡ map (λ p. p.1) printed)
    × CreditorIdentifier judges map (λ p. (p.0, elim (eqb p.1 1) [ true ↦ Ok 0 | false ↦ Err CheckDigits ])) printed
printed-identifiers = (refl, refl)

-- ─── codes: each states its place ───

pub codes :
    Method judges (("DD", Ok 0) ∷ ("dd", Err Code) ∷ ("D", Err Code) ∷ ("DDD", Err Code) ∷ ("", Err Code) ∷ [])
    × Booking judges (("true", Ok 0) ∷ ("false", Ok 1) ∷ ("1", Err Code) ∷ [])
    × Sepa judges (("SEPA", Ok 0) ∷ ("SEP", Err Code) ∷ [])
    × Scheme judges (("CORE", Ok 0) ∷ ("B2B", Ok 1) ∷ ("core", Err Code) ∷ ("COR1", Err Code) ∷ [])
    × Sequence judges (("FRST", Ok 0) ∷ ("RCUR", Ok 1) ∷ ("OOFF", Ok 2) ∷ ("FNAL", Ok 3) ∷ ("RPRE", Err Code) ∷ [])
    × Charges judges (("SLEV", Ok 0) ∷ ("SHAR", Err Code) ∷ [])
    × NotProvided judges (("NOTPROVIDED", Ok 0) ∷ ("NOTPROVIDEX", Err Code) ∷ [])
codes = (refl, refl, refl, refl, refl, refl, refl)
