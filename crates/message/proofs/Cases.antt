-- THE DEFINITIONS AT WORK on the message of the examples, changed in one place or two: numbers and places of the refusals, their order, slips and rows, computed.
--   verdict_read          the verdict on a message as it is read
--   edit s a n t         the message s with the n bytes from the place a on replaced by t
--   cases, cases-right   messages, tables of so many numbers, and the number and place of the answer
--   many-batches, many-transactions   3 and 4: the first element that is one too many; 3 comes first
--   slips, rows, rows_of_two, rows-absent   the numbers of both tables
use Prim.Native.Nat.{ℕ, zero, suc, ◌+◌}
use Prim.Native.String.{String}
use mathlib.Core.Bool.{Bool, ◌&&◌}
use mathlib.Core.List.{List, [], ◌∷◌, ◌++◌}
use mathlib.Core.Path.{◌≡◌, refl}
use lib.Dec.{T, eqb}
use lib.ListN.{take, drop}
use Rattle.std.specs.Prelude.{Ok}
use Rattle.laws.specs.Bytes.{Bytes, ascii}
use Rattle.laws.proofs.Below.{each}
use Rattle.profile.specs.Refusals.{Fault, fault}
use Rattle.tree.specs.Reader.{kids, read, Res, Res.done, Res.stuck}
use Rattle.tree.specs.Pain008.{document, declaration}
use Rattle.tree.specs.Parts as part
use Rattle.tree.proofs.Example.{printed, apart}
use Rattle.message.specs.declared.Told.{Told}
use Rattle.message.specs.Message.{tell}
use Rattle.message.specs.Verdict.{Room, Verdict, Verdict.accepted, Verdict.refused, verdict_of, slips_of, rows_of}

-- ─── numbers and places ───

abbrev pub verdict_read : Bytes → Room → Res → Verdict
verdict_read s room (done es) = verdict_of room (tell s es)
verdict_read s room (stuck n) = refused (fault 2 n)

-- the number and place of a verdict; 0 and 0 where it accepts
abbrev pub told_as : Verdict → Fault
told_as (accepted t) = fault 0 0
told_as (refused f) = f

abbrev pub edit : Bytes → ℕ → ℕ → String → Bytes
edit s a n t = take a s ++ (ascii t ++ drop (a + n) s)

-- a message, the lengths of both tables, and the number and place of the answer
pub record Case : Type 0 where
  pub message : Bytes
  pub slips : ℕ
  pub rows : ℕ
  pub number : ℕ
  pub place : ℕ

-- with tables that are just long enough for the message
abbrev case : Bytes → ℕ → ℕ → Case
case s n p = record { message = s; slips = 24; rows = 8; number = n; place = p }

abbrev pub cases : List Case
cases =
    -- accepted: with exactly the room needed, with white space after the root, and without the batch's sum
    case printed 0 0
    ∷ case (printed ++ ascii " \r\n\t") 0 0
    ∷ case (edit printed 394 26 "") 0 0
    -- 2: a beginning; without ChrgBr; without the header's CtrlSum; a comment; a space in a tag; a byte after the root
    ∷ case (take 1742 printed) 2 1742
    ∷ case (edit printed 727 21 "") 2 729
    ∷ case (edit printed 214 26 "") 2 215
    ∷ case (edit printed 295 0 "<!-- -->") 2 296
    ∷ case (edit printed 155 0 " ") 2 155
    ∷ case (printed ++ 0 ∷ []) 2 1743
    -- 51 to 58: each once; 71 bytes and a byte outside the letter set; a bank that is none, and a BICFI that says so
    ∷ case (edit printed 914 5 "") 51 914
    ∷ case (edit printed 1172 14 "1234567890123456789012345678901234567890123456789012345678901234567890_") 51 1172
    ∷ case (edit printed 914 5 "F>E 1") 52 914
    ∷ case (edit printed 914 5 "/234567890123456789012345678901234_") 52 914
    ∷ case (edit printed 914 5 "/EE 1") 53 914
    ∷ case (edit printed 960 7 "0.00") 54 960
    ∷ case (edit printed 540 10 "2026-02-30") 55 540
    ∷ case (edit printed 1126 1 "X") 56 1116
    ∷ case (edit printed 1554 8 "NOTPROVIDED") 57 1554
    ∷ case (edit printed 1239 1 "8") 58 1218
    -- a creditor identifier: good; of bad check digits; of a bad shape with them; of bad check digits, with a wrong count
    ∷ case (edit printed 783 20 "DE98ZZZ09999999999") 0 0
    ∷ case (edit printed 783 20 "FR00ZZZ123456") 58 783
    ∷ case (edit printed 783 20 "fr00ZZZ123456") 57 783
    ∷ case (edit (edit printed 783 20 "FR00ZZZ123456") 383 1 "3") 58 783
    -- a bad IBAN and a wrong count together, by its check digits and by its shape; of two texts the first
    ∷ case (edit (edit printed 1239 1 "8") 383 1 "3") 58 1218
    ∷ case (edit (edit printed 1239 1 "_") 383 1 "3") 57 1218
    ∷ case (edit (edit printed 1239 1 "8") 914 5 "/EE 1") 53 914
    -- 6 and 7: the batch's count, its sum, both; a declared 0 is not an absent one
    ∷ case (edit printed 383 1 "3") 6 383
    ∷ case (edit printed 403 7 "3250.14") 7 403
    ∷ case (edit (edit printed 403 7 "3250.14") 383 1 "3") 6 383
    ∷ case (edit printed 403 7 "0") 7 403
    -- 8 and 9: the header's, both; the batch comes first
    ∷ case (edit printed 203 1 "3") 8 203
    ∷ case (edit printed 223 7 "3250.14") 9 223
    ∷ case (edit (edit printed 223 7 "3250.14") 203 1 "3") 8 203
    ∷ case (edit (edit printed 403 7 "3250.14") 203 1 "3") 7 403
    -- 10 and 11: a table that is one number too short; 10 comes first; both come last
    ∷ record { message = printed; slips = 23; rows = 8; number = 10; place = 24 }
    ∷ record { message = printed; slips = 24; rows = 7; number = 11; place = 8 }
    ∷ record { message = printed; slips = 0; rows = 0; number = 10; place = 24 }
    ∷ record { message = edit printed 223 7 "3250.14"; slips = 0; rows = 0; number = 9; place = 223 }
    ∷ []

abbrev pub computed : Case → Fault
computed c = told_as (verdict_read c.message (record { slips = c.slips; rows = c.rows }) (read declaration document c.message))

abbrev pub right : Case → Bool
right c = eqb (computed c).number c.number && eqb (computed c).place c.place

pub cases-right : T (each right cases)
unfolding kids
cases-right = tt

-- ─── 3 and 4 ───

-- an element of the part p at the place n
abbrev element : ℕ → ℕ → Told
element p n = record { part = p; place = n; start = n + 1; length = 0; judged = Ok 0 }

-- n elements of the part p, at the places from k on
abbrev elements_from : ℕ → ℕ → ℕ → List Told
elements_from k p zero = []
elements_from k p (suc n) = element p k ∷ elements_from (suc k) p n

-- the batches, or transactions, at the places 1 to n
abbrev elements : ℕ → ℕ → List Told
elements p n = elements_from 1 p n

abbrev enough : Room
enough = record { slips = 24_000; rows = 512 }

many-batches :
    (told_as (verdict_of enough (elements part.batch 64)) ≡ fault 0 0) × (verdict_of enough (elements part.batch 65) ≡ refused (fault 3 65))
many-batches = (refl, refl)

many-transactions :
    (told_as (verdict_of enough (element part.batch 0 ∷ elements part.transaction 2_000)) ≡ fault 0 0)
    × (verdict_of enough (element part.batch 0 ∷ elements part.transaction 2_001) ≡ refused (fault 4 2_001))
    × (verdict_of enough (elements part.batch 65 ++ elements part.transaction 2_001) ≡ refused (fault 3 65))
many-transactions = (refl, refl, refl)

-- ─── slips and rows ───

abbrev said_read : Bytes → Res → List Told
said_read s (done es) = tell s es
said_read s (stuck n) = []

abbrev said_in : Bytes → List Told
said_in s = said_read s (read declaration document s)

-- batch from 1, cents, then start and length of EndToEndId, MndtId, debtor Nm, debtor IBAN, Ustrd; no Ustrd in the second
slips :
    slips_of (said_in printed)
    ≡ 1 ∷ 110_007 ∷ 914 ∷ 5 ∷ 1010 ∷ 7 ∷ 1172 ∷ 14 ∷ 1218 ∷ 22 ∷ 1278 ∷ 10
    ∷ 1 ∷ 215_008 ∷ 1353 ∷ 5 ∷ 1449 ∷ 9 ∷ 1603 ∷ 14 ∷ 1649 ∷ 16 ∷ 0 ∷ 0
    ∷ []
unfolding kids
slips = refl

-- transactions before it, count, cents, declared count, declared sum, 4 × scheme + sequence
rows : rows_of (said_in printed) ≡ 0 ∷ 2 ∷ 325_015 ∷ 1 ∷ 2 ∷ 1 ∷ 325_015 ∷ 1 ∷ []
unfolding kids
rows = refl

rows_of_two : rows_of (said_in apart) ≡ 0 ∷ 1 ∷ 110_007 ∷ 1 ∷ 1 ∷ 1 ∷ 110_007 ∷ 1 ∷ 1 ∷ 1 ∷ 215_008 ∷ 1 ∷ 1 ∷ 1 ∷ 215_008 ∷ 1 ∷ []
unfolding kids
rows_of_two = refl

-- without the batch's sum; without its count; without both, in a batch of B2B and FNAL
rows-absent :
    (rows_of (said_in (edit printed 394 26 "")) ≡ 0 ∷ 2 ∷ 325_015 ∷ 1 ∷ 2 ∷ 0 ∷ 0 ∷ 1 ∷ [])
    × (rows_of (said_in (edit printed 374 20 "")) ≡ 0 ∷ 2 ∷ 325_015 ∷ 0 ∷ 0 ∷ 1 ∷ 325_015 ∷ 1 ∷ [])
    × (rows_of (said_in (edit (edit (edit printed 503 4 "FNAL") 475 4 "B2B") 374 46 "")) ≡ 0 ∷ 2 ∷ 325_015 ∷ 0 ∷ 0 ∷ 0 ∷ 0 ∷ 7 ∷ [])
unfolding kids
rows-absent = (refl, refl, refl)
