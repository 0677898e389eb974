-- WHAT WAS HEARD of a message so far, as the code keeps it, and its step for one event. Executable; that it is right is proofs/Right.
--   if_true z a b, if_any k a b   a where the test z holds, or k is not 0; else b
--   when z p                    p where the test z holds; else none
--   Word, nothing, word t       what a part last said: 1, its text's start and length, and the number that it states; all 0 where it said nothing
--   fewer, limit_step n l t      one element of the part n fewer may still come before one is too many, and it is the last one
--   over left place             the place of the first that is too many
--   Mixes, address_in said       what was heard of addresses; what stands in the one that is open
--   opened_mixes, judged_mixes, ended_mixes, begun_mixes   an address begins; the open one is judged; the open batch ended, and another begun
--   State                       what was said, part by part; first faults; addresses; the tally; the two lent tables
--   settled, shut st            the open transaction added, and the open address judged; the open batch closed too
--   added, began, saying        the three things that an event does: it begins a transaction, or a batch, and its text says something
--   step st t                   what was heard with the event t
use Rattle.std.specs.Prelude.{ℕ, zero, suc, ◌+◌, ◌-◌, ◌*◌, Bool, true, false, List, [], ◌∷◌, ◌++◌, eqb, ltb, leb, length, None, Some}
use Rattle.std.proofs.Math.Option.{Option, none, some}
use Rattle.laws.specs.Lists.{gather}
use Rattle.laws.specs.Put.{put_at}
use Rattle.profile.specs.Limits.{most_batches, most_transactions}
use Rattle.profile.specs.Refusals.{Fault}
use Rattle.profile.specs.Totals.{DeclaredCount, count_differs, sum_differs, fresh_tally, with_transaction, closed, begun}
use Rattle.profile.specs.declared.DeclaredSum.{DeclaredSum}
use Rattle.profile.specs.declared.DeclaredSum.TheVariants.{Absent, Cents}
use Rattle.profile.specs.declared.Batch.{Batch}
use Rattle.profile.specs.declared.Tally.{Tally}
use Rattle.tree.specs.Parts as part
use Rattle.message.specs.declared.Told.{Told}
use Rattle.message.specs.declared.Address.{Address}
use Rattle.message.specs.Message.{is, worth}
use Rattle.message.specs.Addresses.{unstructured_ends, good_mix}
use Rattle.message.specs.Verdict.{at, or_else, broken, unless_at}
use Rattle.heard.specs.declared.Word.{Word}
use Rattle.heard.specs.declared.Limit.{Limit}

abbrev pub if_true : {A : Type 0} → Bool → A → A → A
if_true true a b = a
if_true false a b = b

abbrev pub if_any : {A : Type 0} → ℕ → A → A → A
if_any zero a b = b
if_any (suc k) a b = a

abbrev pub when : Bool → ℕ → Option ℕ
when z p = if_true z (some p) none

-- ─── 1. What a part last said ───

abbrev pub nothing : Word
nothing = record { mark = 0; start = 0; length = 0; worth = 0 }

abbrev pub word : Told → Word
word t = record { mark = 1; start = t.start; length = t.length; worth = worth t }

-- an element of the part n begins: from n on nothing is said, but that n is
abbrev pub opens : ℕ → (ℕ → Word) → ℕ → Word
opens n said p = if_true (ltb p n) (said p) (if_true (eqb p n) (record { mark = 1; start = 0; length = 0; worth = 0 }) nothing)

-- ─── 2. Limits ───

-- the place of the last one stays
abbrev pub fewer : ℕ → ℕ → ℕ → Limit
fewer zero q p = record { left = 0; place = q }
fewer (suc k) q p = record { left = k; place = p }

abbrev pub limit_step : ℕ → Limit → Told → Limit
limit_step n l t = if_true (is n t) (fewer l.left l.place t.place) l

abbrev pub over : ℕ → ℕ → Option ℕ
over zero p = some p
over (suc k) p = none

-- ─── 3. A batch that ends ───

abbrev pub count_of : Word → DeclaredCount
count_of w = if_any w.mark (Some (record { 0 = w.worth })) None

abbrev pub sum_of : Word → DeclaredSum
sum_of w = if_any w.mark (Cents (record { 0 = w.worth })) Absent

abbrev pub batch_from : (ℕ → Word) → Tally → Batch
batch_from said y = record { count = y.count; sum = y.sum; declared_count = count_of (said part.batch_count); declared_sum = sum_of (said part.batch_sum) }

-- its count, then its sum
abbrev pub fault_in : Batch → ℕ → ℕ → Option Fault
fault_in b p q = or_else (at 6 (when (count_differs b.declared_count b.count) p)) (at 7 (when (sum_differs b.declared_sum b.sum) q))

abbrev pub fault_from : (ℕ → Word) → Tally → Option Fault
fault_from said y = fault_in (batch_from said y) (said part.batch_count).start (said part.batch_sum).start

-- ─── 4. Addresses ───

-- the first bad mix of the batches that ended; the place of the address that is open; the first bad mix of the open batch, at an early collection date and at a late one
pub record Mixes : Type 0 where
  pub found : Option Fault
  pub address : Option ℕ
  pub early : Option Fault
  pub late : Option Fault

abbrev pub marked : Word → Bool
marked w = if_any w.mark true false

abbrev pub address_in : (ℕ → Word) → Address
address_in said = record {
  detail = marked (said part.address_detail);
  town = marked (said part.town);
  country = marked (said part.country);
  line = marked (said part.address_line);
}

-- the open address, where its mix is bad
abbrev pub mix_in : Bool → (ℕ → Word) → Option ℕ → Option Fault
mix_in early said o = at 59 (unless_at (good_mix early (address_in said)) o)

-- an address begins
abbrev pub opened_mixes : Mixes → Told → Mixes
opened_mixes m t = record m { address = if_true (is part.address t) (some t.place) m.address }

abbrev pub judged_mixes : (ℕ → Word) → Mixes → Mixes
judged_mixes said m = record m {
  address = none;
  early = or_else m.early (mix_in true said m.address);
  late = or_else m.late (mix_in false said m.address);
}

abbrev pub ended_mixes : ℕ → Mixes → Mixes
ended_mixes date m = record m { found = or_else m.found (if_true (ltb date unstructured_ends) m.early m.late) }

abbrev pub begun_mixes : Mixes → Mixes
begun_mixes m = record m { early = none; late = none }

-- ─── 5. The rows ───

-- n numbers put at a place, where there is room
abbrev pub put_if_room : List ℕ → ℕ → ℕ → List ℕ → List ℕ
put_if_room out at n xs = if_true (leb (at + n) (length out)) (put_at out at xs) out

abbrev pub slip_parts : List ℕ
slip_parts = part.end_to_end ∷ part.mandate ∷ part.debtor_name ∷ part.debtor_account ∷ part.remittance ∷ []

-- batch from 1, cents, the texts
abbrev pub slip_numbers : ℕ → (ℕ → Word) → List ℕ
slip_numbers k said = k ∷ (said part.amount).worth ∷ gather (λ p. (said p).start ∷ (said p).length ∷ []) slip_parts

abbrev pub declared_parts : List ℕ
declared_parts = part.batch_count ∷ part.batch_sum ∷ []

-- transactions before it, count, cents, the declarations, 4 × scheme + sequence
abbrev pub row_numbers : (ℕ → Word) → Tally → List ℕ
row_numbers said y =
    y.transactions.0 ∷ y.count.0 ∷ y.sum.0
    ∷ (gather (λ p. (said p).mark ∷ (said p).worth ∷ []) declared_parts ++ ((4 * (said part.scheme).worth + (said part.sequence).worth) ∷ []))

-- ─── 6. The state ───

pub record State : Type 0 where
  pub said : ℕ → Word
  pub bad : Option Fault
  pub batches : Limit
  pub transactions : Limit
  pub fault : Option Fault
  pub mixes : Mixes
  pub tally : Tally
  pub slips : List ℕ
  pub rows : List ℕ

abbrev pub fresh : List ℕ → List ℕ → State
fresh slips rows = record {
  said = λ p. nothing;
  bad = none;
  batches = record { left = suc most_batches; place = 0 };
  transactions = record { left = suc most_transactions; place = 0 };
  fault = none;
  mixes = record { found = none; address = none; early = none; late = none };
  tally = fresh_tally;
  slips = slips;
  rows = rows;
}

-- the tally and the slips with the open transaction, where one is open in a batch
abbrev pub settled_tally : State → Tally
settled_tally st =
    let y = st.tally in
    if_any y.batches (if_any (st.said part.transaction).mark (with_transaction y (record { 0 = (st.said part.amount).worth })) y) y

abbrev pub settled_slips : State → List ℕ
settled_slips st =
    let y = st.tally in
    if_any y.batches (if_any (st.said part.transaction).mark (put_if_room st.slips (12 * (y.transactions.0 + y.count.0)) 12 (slip_numbers y.batches st.said)) st.slips) st.slips

abbrev pub settled : State → State
settled st = record st { mixes = judged_mixes st.said st.mixes; tally = settled_tally st; slips = settled_slips st }

-- the open batch closed, where there is one
abbrev pub shut : State → State
shut st =
    let y = settled_tally st in
    let k = y.batches in
    record st {
      fault = if_any k (or_else st.fault (fault_from st.said y)) st.fault;
      mixes = let m = judged_mixes st.said st.mixes in if_any k (ended_mixes (st.said part.collection_date).worth m) m;
      tally = closed y;
      slips = settled_slips st;
      rows = if_any k (put_if_room st.rows (8 * (k - 1)) 8 (row_numbers st.said y)) st.rows;
    }

-- a transaction begins
abbrev pub added : State → State
added st = let a = settled st in record a { said = opens part.transaction a.said }

-- a batch begins
abbrev pub began : State → State
began st = let a = shut st in record a { said = opens part.batch a.said; mixes = begun_mixes a.mixes; tally = begun a.tally }

-- what an event says
abbrev pub saying : State → Told → State
saying st t = record st {
  said = λ p. if_true (is p t) (word t) (st.said p);
  bad = or_else st.bad (broken t.judged t.start);
  batches = limit_step part.batch st.batches t;
  transactions = limit_step part.transaction st.transactions t;
  mixes = opened_mixes st.mixes t;
}

-- inside a batch
abbrev pub inside_batch : State → Told → State
inside_batch st t = saying (if_true (is part.transaction t) (added st) st) t

unfoldable pub step : State → Told → State
step st t = inside_batch (if_true (is part.batch t) (began st) st) t
