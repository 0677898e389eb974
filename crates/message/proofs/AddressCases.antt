-- ADDRESSES, by cases: the 16 mixes on both sides of the date, the order of the stages, and the places of 2, computed.
--   mixes, mixes-right     each mix, of a creditor and of a debtor, on 2026-11-14 and on 2026-11-15; seven are good on the first and four on the second
--   own-dates, first-bad   the date is that of the own batch; of two bad mixes the first
--   cases, cases-right     messages with addresses, and the number and place of the answer
use Prim.Native.Nat.{ℕ}
use Prim.Native.String.{String}
use mathlib.Core.Bool.{Bool, true, false, ◌&&◌}
use mathlib.Core.List.{List, [], ◌∷◌, ◌++◌}
use mathlib.Core.Path.{◌≡◌, refl}
use lib.Dec.{T, eqb}
use Rattle.std.specs.Prelude.{Ok}
use Rattle.laws.specs.Bytes.{Bytes}
use Rattle.laws.specs.Lists.{count, put_if}
use Rattle.laws.proofs.Below.{each}
use Rattle.profile.specs.Refusals.{Fault, fault}
use Rattle.tree.specs.Reader.{kids}
use Rattle.tree.specs.Parts as part
use Rattle.tree.proofs.Example.{printed}
use Rattle.message.specs.declared.Told.{Told}
use Rattle.message.specs.Verdict.{verdict_of}
use Rattle.message.proofs.Cases.{told_as, edit, Case, right}

-- ─── the mixes ───

-- an element of the part p at the place n, whose text states k
abbrev element : ℕ → ℕ → ℕ → Told
element p n k = record { part = p; place = n; start = n; length = 0; judged = Ok k }

-- which parts stand in an address, and whether it is good on 2026-11-14, and on 2026-11-15
pub record Mix : Type 0 where
  pub detail : Bool
  pub town : Bool
  pub country : Bool
  pub line : Bool
  pub early : Bool
  pub late : Bool

abbrev mix : Bool → Bool → Bool → Bool → Bool → Bool → Mix
mix d t c l e f = record { detail = d; town = t; country = c; line = l; early = e; late = f }

abbrev pub mixes : List Mix
mixes =
    -- detail, town, country, line; good on the 14th, and on the 15th
    mix false false false false false false  -- the empty address
    ∷ mix false false false true true false  -- unstructured
    ∷ mix false false true false true false
    ∷ mix false false true true true false
    ∷ mix false true false false false false  -- a town without its country
    ∷ mix false true false true false false
    ∷ mix false true true false true true  -- structured
    ∷ mix false true true true true true  -- hybrid
    ∷ mix true false false false false false  -- a street, number or post code without town and country
    ∷ mix true false false true false false
    ∷ mix true false true false false false
    ∷ mix true false true true false false
    ∷ mix true true false false false false
    ∷ mix true true false true false false
    ∷ mix true true true false true true  -- structured
    ∷ mix true true true true true true  -- hybrid
    ∷ []

-- its address at the place p
abbrev address_at : ℕ → Mix → List Told
address_at p m =
    element part.address p 0
    ∷ put_if m.detail (element part.address_detail 0 0) (put_if m.town (element part.town 0 0) (put_if m.country (element part.country 0 0) (put_if m.line (element part.address_line 0 0) [])))

-- a batch of the collection date d: what stands before its transaction, and in it
abbrev batch_on : ℕ → List Told → List Told → List Told
batch_on d creditor debtor = element part.batch 1 0 ∷ element part.collection_date 2 d ∷ (creditor ++ element part.transaction 3 0 ∷ debtor)

abbrev answer_to : List Told → Fault
answer_to ts = told_as (verdict_of (record { slips = 24_000; rows = 512 }) ts)

-- accepted where the mix is good, and refused with 59 at its place 7 where it is not
abbrev answers : Bool → List Told → Bool
answers true ts = eqb (answer_to ts).number 0
answers false ts = eqb (answer_to ts).number 59 && eqb (answer_to ts).place 7

abbrev pub right_mix : Mix → Bool
right_mix m =
    answers m.early (batch_on 2026_11_14 (address_at 7 m) []) && (answers m.late (batch_on 2026_11_15 (address_at 7 m) [])
    && (answers m.early (batch_on 2026_11_14 [] (address_at 7 m)) && answers m.late (batch_on 2026_11_15 [] (address_at 7 m))))

pub mixes-right : T (each right_mix mixes) × (count (λ m. m.early) mixes ≡ 7) × (count (λ m. m.late) mixes ≡ 4)
mixes-right = (tt, refl, refl)

-- an unstructured address, and an empty one
abbrev only_country : Mix
only_country = mix false false true false true false

abbrev empty : Mix
empty = mix false false false false false false

-- an unstructured address in the early batch of two, and in the late one; the other batch has none
pub own-dates :
    (answer_to (batch_on 2026_11_14 [] (address_at 7 only_country) ++ batch_on 2026_11_15 [] []) ≡ fault 0 0)
    × (answer_to (batch_on 2026_11_14 [] [] ++ batch_on 2026_11_15 [] (address_at 7 only_country)) ≡ fault 59 7)
    × (answer_to (batch_on 2026_11_15 [] [] ++ batch_on 2026_11_14 [] (address_at 7 only_country)) ≡ fault 0 0)
    × (answer_to (batch_on 2026_11_15 (address_at 7 only_country) [] ++ batch_on 2026_11_14 [] []) ≡ fault 59 7)
own-dates = (refl, refl, refl, refl)

-- the creditor's before the debtor's; the first batch's before the second's; in a late batch the unstructured one before the empty one
pub first-bad :
    (answer_to (batch_on 2026_11_14 (address_at 7 empty) (address_at 8 empty)) ≡ fault 59 7)
    × (answer_to (batch_on 2026_11_14 [] (address_at 8 empty) ++ batch_on 2026_11_14 (address_at 7 empty) []) ≡ fault 59 8)
    × (answer_to (batch_on 2026_11_14 (address_at 7 only_country) (address_at 8 empty)) ≡ fault 59 8)
    × (answer_to (batch_on 2026_11_15 (address_at 7 only_country) (address_at 8 empty)) ≡ fault 59 7)
first-bad = (refl, refl, refl, refl)

-- ─── messages ───

-- in the message of the examples, whose collection date is 2026-11-10, after the creditor's name, and after the first debtor's
abbrev in_creditor : String → Bytes
in_creditor t = edit printed 594 0 t

abbrev in_debtor : String → Bytes
in_debtor t = edit printed 1191 0 t

abbrev case : Bytes → ℕ → ℕ → Case
case s n p = record { message = s; slips = 24; rows = 8; number = n; place = p }

abbrev pub cases : List Case
cases =
    -- accepted: a structured, a hybrid and an unstructured address, with white space between the elements
    case (in_creditor "<PstlAdr><StrtNm>Rue 1/A</StrtNm><BldgNb>7</BldgNb><PstCd>1204</PstCd><TwnNm>Geneva</TwnNm><Ctry>CH</Ctry></PstlAdr>") 0 0
    ∷ case (in_debtor "\n<PstlAdr> <TwnNm>Leeds</TwnNm>\t<Ctry>GB</Ctry>\r\n<AdrLine>c/o Labs</AdrLine> </PstlAdr> ") 0 0
    ∷ case (in_debtor "<PstlAdr><AdrLine>1 High Street</AdrLine><AdrLine>Leeds</AdrLine></PstlAdr>") 0 0
    -- 59: the same on 2026-11-15; an empty one; one with white space alone
    ∷ case (edit (in_debtor "<PstlAdr><AdrLine>1 High Street</AdrLine><AdrLine>Leeds</AdrLine></PstlAdr>") 540 10 "2026-11-15") 59 1191
    ∷ case (in_creditor "<PstlAdr></PstlAdr>") 59 594
    ∷ case (in_creditor " <PstlAdr> </PstlAdr>") 59 595
    -- a bad text before it, in it, and after it; a wrong count, and short tables; of two bad mixes the first
    ∷ case (edit (in_debtor "<PstlAdr></PstlAdr>") 914 5 "") 51 914
    ∷ case (in_creditor "<PstlAdr><TwnNm>Leeds</TwnNm><Ctry>gb</Ctry></PstlAdr>") 57 629
    ∷ case (edit (in_creditor "<PstlAdr></PstlAdr>") 933 5 "") 51 933
    ∷ case (edit (in_debtor "<PstlAdr><TwnNm>Leeds</TwnNm></PstlAdr>") 383 1 "3") 59 1191
    ∷ record { message = in_debtor "<PstlAdr><TwnNm>Leeds</TwnNm></PstlAdr>"; slips = 0; rows = 0; number = 59; place = 1191 }
    ∷ case (edit (in_debtor "<PstlAdr></PstlAdr>") 594 0 "<PstlAdr><TwnNm>A</TwnNm></PstlAdr>") 59 594
    -- 2: `<PstlAdr>` against `</Cdtr>`, and against `</Dbtr>`; `<Ctry>` against `<AdrLine>` and `</PstlAdr>`
    ∷ case (in_creditor "<PstlAdx>") 2 601
    ∷ case (in_debtor "<X>") 2 1192
    ∷ case (in_creditor "<PstlAdr><Ctx>") 2 606
    ∷ case (in_creditor "<PstlAdr><Adr>") 2 607
    ∷ case (in_creditor "<PstlAdr></X>") 2 605
    -- a third line; a line before the country; a town before the street; the country twice; a text, and another element, in an address
    ∷ case (in_creditor "<PstlAdr><AdrLine>A</AdrLine><AdrLine>B</AdrLine><AdrLine>C</AdrLine></PstlAdr>") 2 644
    ∷ case (in_creditor "<PstlAdr><AdrLine>A</AdrLine><Ctry>CH</Ctry></PstlAdr>") 2 624
    ∷ case (in_creditor "<PstlAdr><TwnNm>A</TwnNm><StrtNm>B</StrtNm></PstlAdr>") 2 620
    ∷ case (in_creditor "<PstlAdr><Ctry>CH</Ctry><Ctry>CH</Ctry></PstlAdr>") 2 619
    ∷ case (in_creditor "<PstlAdr>A</PstlAdr>") 2 603
    ∷ case (in_creditor "<PstlAdr><Dept>A</Dept></PstlAdr>") 2 604
    -- two addresses; one before the name; one of the initiating party; an empty-element tag
    ∷ case (in_creditor "<PstlAdr></PstlAdr><PstlAdr></PstlAdr>") 2 614
    ∷ case (edit printed 571 0 "<PstlAdr></PstlAdr>") 2 572
    ∷ case (edit printed 275 0 "<PstlAdr></PstlAdr>") 2 276
    ∷ case (in_creditor "<PstlAdr/>") 2 602
    ∷ []

pub cases-right : T (each right cases)
unfolding kids
cases-right = tt
