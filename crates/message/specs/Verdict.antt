-- THE STAGES FROM 3 ON of the check, AND THE ROWS of its tables, of what a message says. To be believed; definitions only.
--   Room             the lengths of the two tables
--   stages r ts      the stages in order, each its first fault or none: the papers' number, and the place
--   verdict_of r ts   the fault of the first stage that finds one, else the message's batches, transactions and cents
--   slips_of, rows_of  the numbers that the two tables get
use Rattle.std.specs.Prelude.{ℕ, zero, suc, ◌+◌, ◌*◌, Bool, true, false, List, [], ◌∷◌, ◌++◌, map, eqb, leb, length, Err, Ok}
use Rattle.std.proofs.Math.Option.{Option, none, some}
use Rattle.laws.specs.Lists.{total, gather}
use Rattle.profile.specs.Limits.{most_batches, most_transactions}
use Rattle.profile.specs.Refusals.{Fault, fault, flaw_number}
use Rattle.profile.specs.declared.Totals.{Totals}
use Rattle.text.specs.Rules.{Judged}
use Rattle.tree.specs.Parts as part
use Rattle.message.specs.declared.Told.{Told}
use Rattle.message.specs.Addresses.{Party, parties_of, mix_of}
use Rattle.message.specs.Message.{Transaction, Batch, all_of, the, batches_of, worth, worth_of, cents_of, exact_count, exact_sum}

-- ─── 1. First faults ───

abbrev pub or_else : {A : Type 0} → Option A → Option A → Option A
or_else none b = b
or_else (some a) b = some a

-- the first that is there
abbrev pub first : {A : Type 0} → List (Option A) → Option A
first [] = none
first (a ∷ l) = or_else a (first l)

-- the number n, at the place that was found
abbrev pub at : ℕ → Option ℕ → Option Fault
at n none = none
at n (some p) = some (fault n p)

-- nothing where a test holds
abbrev pub unless : Bool → ℕ → Option ℕ
unless true p = none
unless false p = some p

-- ─── 2. The stages ───

-- the place of the (k+1)st element: it is one too many where k are allowed
abbrev pub place_after : ℕ → List Told → Option ℕ
place_after k [] = none
place_after zero (t ∷ ts) = some t.place
place_after (suc k) (t ∷ ts) = place_after k ts

-- 51 to 58: a text that breaks its rule, by its flaw
abbrev pub broken : Judged → ℕ → Option Fault
broken (Ok n) p = none
broken (Err f) p = some (fault (flaw_number f) p)

-- the first such text, at its start
abbrev pub first_broken : List Told → Option Fault
first_broken [] = none
first_broken (t ∷ ts) = or_else (broken t.judged t.start) (first_broken ts)

-- where an element stands, if there is one
abbrev pub place_in : Option Told → Option ℕ
place_in none = none
place_in (some t) = some t.place

-- nothing where a test holds, else what was found
abbrev pub unless_at : Bool → Option ℕ → Option ℕ
unless_at true o = none
unless_at false o = o

-- 59: where the mix of a party's address is bad, the `<` of its PstlAdr
abbrev pub mix_fault : Party → Option Fault
mix_fault x = at 59 (unless_at (mix_of x) (place_in (the part.address x.said)))

-- the start of a declaration that states another number; an absent one states none
abbrev pub differs : Option Told → ℕ → Option ℕ
differs none n = none
differs (some t) n = unless (eqb (worth t) n) t.start

-- a batch's count, then its sum
abbrev pub batch_fault : Batch → Option Fault
batch_fault b = or_else (at 6 (differs b.declared_count (exact_count b))) (at 7 (differs b.declared_sum (exact_sum b)))

pub record Room : Type 0 where
  pub slips : ℕ
  pub rows : ℕ

abbrev pub stages : Room → List Told → List (Option Fault)
stages r ts =
    let bs = batches_of ts in
    at 3 (place_after most_batches (all_of part.batch ts))
    ∷ at 4 (place_after most_transactions (all_of part.transaction ts))
    ∷ first_broken ts  -- 51 to 58
    ∷ first (map mix_fault (parties_of ts))  -- 59
    ∷ first (map batch_fault bs)  -- 6, 7
    ∷ at 8 (differs (the part.message_count ts) (total exact_count bs))
    ∷ at 9 (differs (the part.message_sum ts) (total exact_sum bs))
    ∷ at 10 (unless (leb (12 * total exact_count bs) r.slips) (12 * total exact_count bs))
    ∷ at 11 (unless (leb (8 * length bs) r.rows) (8 * length bs))
    ∷ []

-- what the stages answer: the totals, or a fault
pub data Verdict : Type 0 where
  accepted : Totals → Verdict
  refused : Fault → Verdict

abbrev pub verdict : Option Fault → Totals → Verdict
verdict none t = accepted t
verdict (some f) t = refused f

abbrev pub totals_of : List Batch → Totals
totals_of bs = record { batches = length bs; transactions = record { 0 = total exact_count bs }; cents = record { 0 = total exact_sum bs } }

abbrev pub verdict_of : Room → List Told → Verdict
verdict_of r ts = verdict (first (stages r ts)) (totals_of (batches_of ts))

-- ─── 3. The rows ───

-- start and length of a text, 0 and 0 where it is missing
abbrev pub start_and_length : Option Told → List ℕ
start_and_length none = 0 ∷ 0 ∷ []
start_and_length (some t) = t.start ∷ t.length ∷ []

-- 1 or 0 for a declaration, then what it states or 0
abbrev pub declared : Option Told → List ℕ
declared none = 0 ∷ 0 ∷ []
declared (some t) = 1 ∷ worth t ∷ []

-- twelve numbers: batch from 1, cents, the five texts
abbrev pub slip : ℕ → Transaction → List ℕ
slip k x = k ∷ cents_of x ∷ (start_and_length x.end_to_end ++ (start_and_length x.mandate ++ (start_and_length x.debtor_name ++ (start_and_length x.debtor_account ++ start_and_length x.remittance))))

-- the slips of the batches, the first of which is batch k
abbrev pub slips_from : ℕ → List Batch → List ℕ
slips_from k [] = []
slips_from k (b ∷ bs) = gather (slip k) b.transactions ++ slips_from (suc k) bs

abbrev pub slips_of : List Told → List ℕ
slips_of ts = slips_from 1 (batches_of ts)

-- eight numbers: transactions before it, count, cents, the two declarations, 4 × scheme + sequence
abbrev pub row : ℕ → Batch → List ℕ
row m b = m ∷ exact_count b ∷ exact_sum b ∷ (declared b.declared_count ++ (declared b.declared_sum ++ ((4 * worth_of b.scheme + worth_of b.sequence) ∷ [])))

-- the rows of the batches, with m transactions before them
abbrev pub rows_from : ℕ → List Batch → List ℕ
rows_from m [] = []
rows_from m (b ∷ bs) = row m b ++ rows_from (m + exact_count b) bs

abbrev pub rows_of : List Told → List ℕ
rows_of ts = rows_from 0 (batches_of ts)
