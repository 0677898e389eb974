-- THE CASES MARKED ★ in document 01, and those that document 02 names, as one list and one claim about the definitions. That it holds is proofs/Hold.
--   Case       a message that is refused with 2 at a place; a text that obeys a rule, or breaks it; a test
--   Claim c    what the case c claims
--   cases      ★1 TO ★12, each under its number
--   asked      the cases that document 02 names, each under its request
--   Stars      THE CLAIM: each case holds
use Rattle.std.specs.Prelude.{ℕ, Bool, true, false, not, ◌&&◌, List, [], ◌∷◌, ◌++◌, map, T, eqb, ltb, Err, Ok}
use Prim.Native.String.{String}
use Rattle.laws.specs.Bytes.{Bytes, ascii, same}
use Rattle.laws.specs.Lists.{All, number}
use Rattle.profile.specs.Refusals.{list_number_of, list_place_of, list_field_of}
use Rattle.text.specs.Rules.{Judged, good, leaves, without_business_code, iban, amount, sum, date, identifier, bic, creditor_identifier}
use Rattle.tree.specs.Form.{NotOfForm}
use Rattle.tree.specs.Pain008.{document, declaration}
use Rattle.daylist.specs.Stages.{JudgedList, judged_list}
use Rattle.message.specs.declared.Address.{Address}
use Rattle.message.specs.Addresses.{unstructured_ends, good_mix}
use Rattle.bundle.specs.Bundle.{bundle}

pub data Case : Type 0 where
  two : String → ℕ → Case
  obeys : (Bytes → Judged) → String → Case
  breaks : (Bytes → Judged) → String → Case
  test : Bool → Case

abbrev pub Claim : Case → Type 0
Claim (two s n) = NotOfForm declaration document (ascii s) n
Claim (obeys r s) = T (good (r (ascii s)))
Claim (breaks r s) = T (not (good (r (ascii s))))
Claim (test b) = T b

-- ─── what the tests compare ───

-- the items, from 1, of each batch
abbrev pub items_of : ℕ → List ℕ → List (List ℕ)
items_of ceiling terms = map (map (λ p. p.0)) (bundle (λ p. p.1) eqb ceiling (number 1 terms))

abbrev pub alike : List (List ℕ) → List (List ℕ) → Bool
alike [] [] = true
alike [] (y ∷ ys) = false
alike (x ∷ xs) [] = false
alike (x ∷ xs) (y ∷ ys) = same x y && alike xs ys

-- number, line and field of a list's refusal; nothing where it is good
abbrev pub refusal : JudgedList → List ℕ
refusal (Ok n) = []
refusal (Err r) = list_number_of r ∷ list_place_of r ∷ list_field_of r ∷ []

-- a list of a creditor and one collection, whose cents are these digits
abbrev pub with_cents : String → List ℕ
with_cents cents =
    refusal (judged_list (
    ascii "010B52554E2D323032362F303713323032362D31312D30325430393A33303A3030104C65616B204C616273204275726561750E4F274E65696C2054657374696E67"
    ++ (ascii "1042453638353339303037353437303334084242525542454242144245363930303030353044303030303030303038"
    ++ (10 ∷ (ascii "020001" ++ (ascii cents
    ++ (ascii "0A323032362D31312D3130054645452031074D2D35353535350A323030392D30392D3031000E4D72204465626974657572204E31"
    ++ (ascii "16474232394E57424B36303136313333313932363831390A46616374757265204E31" ++ (10 ∷ []))))))))
    500)

-- an empty PstlAdr
abbrev pub empty_address : Address
empty_address = record { detail = false; town = false; country = false; line = false }

-- ─── the list ───

abbrev pub cases : List (ℕ × Case)
cases =
    (1, two "" 0)
    ∷ (2, two "<" 1)
    ∷ (3, two "<?xml version=\"1.0\" encoding=\"UTF-8\" ?>" 36)
    ∷ (4, obeys iban "GB29NWBK60161331926819")
    ∷ (4, obeys iban "BE30001216371411")
    ∷ (5, breaks iban "FR7610041010050500013M02606")
    ∷ (5, test (eqb (leaves (ascii "FR7610041010050500013M02606")) 6))
    ∷ (6, obeys amount "999999999.99")
    ∷ (6, breaks amount "1000000000")
    ∷ (6, breaks amount "0.00")
    ∷ (6, breaks amount "1.")
    ∷ (6, breaks amount ".5")
    ∷ (7, obeys sum "0")
    ∷ (7, breaks sum "3250.150")
    ∷ (8, obeys date "2000-02-29")
    ∷ (8, breaks date "1900-02-29")
    ∷ (9, obeys identifier "A/B")
    ∷ (9, breaks identifier "A//B")
    ∷ (9, breaks identifier "/A")
    ∷ (10, obeys bic "BANKGB2L")
    ∷ (11, test (alike (items_of 2 (1 ∷ 1 ∷ 2 ∷ 1 ∷ 2 ∷ 1 ∷ 1 ∷ [])) ((1 ∷ 2 ∷ []) ∷ (4 ∷ 6 ∷ []) ∷ (7 ∷ []) ∷ (3 ∷ 5 ∷ []) ∷ [])))
    ∷ (12, test (same (with_cents "174876E7FF") []))
    ∷ (12, test (same (with_cents "174876E800") (54 ∷ 2 ∷ 3 ∷ [])))
    ∷ []

abbrev pub asked : List (ℕ × Case)
asked =
    (2, obeys creditor_identifier "DE98ZZZ09999999999")
    ∷ (2, breaks creditor_identifier "FR00ZZZ123456")
    ∷ (2, test (eqb (leaves (without_business_code (ascii "FR00ZZZ123456"))) 26))
    ∷ (3, test (not (good_mix true empty_address)))
    ∷ (3, test (ltb 2026_11_14 unstructured_ends))
    ∷ (3, test (not (ltb 2026_11_15 unstructured_ends)))
    ∷ []

-- THE CLAIM
abbrev pub Stars : Type 0
Stars = All (λ c. Claim c.1) (cases ++ asked)
