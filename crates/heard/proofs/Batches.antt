-- BATCH AFTER BATCH, TRANSACTION AFTER TRANSACTION: what is open, once it is settled or shut, is what was settled or shut before, with the transaction or batch of its part added.
--   Purse, purse st, add_transaction   the tally and the slips with the open transaction; with one transaction more
--   one-transaction     the part of a transaction adds it
--   slips_put, purse-all   the slips of transactions put one after the other; what all transactions of a batch add
--   Closed, closed_of st, add_batch     the totals, the first fault and the tables with the open batch closed; with one batch more
--   one_batch           the part of a batch adds it
use Prim.Native.Nat.{ℕ, zero, suc, ◌+◌, ◌-◌, ◌*◌}
use native.Mathlib.Nat.{zero-add, add-zero}
use native.Mathlib.Omega.{arith}
use mathlib.Core.Bool.{true}
use mathlib.Core.List.{List, [], ◌∷◌}
use mathlib.Core.Option.{Option, none}
use mathlib.Core.Path.{◌≡◌, refl, ap, ◌∙◌}
use lib.Dec.{ltb}
use lib.ListN.{length}
use Rattle.laws.specs.Lists.{total}
use Rattle.profile.specs.Refusals.{Fault}
use Rattle.profile.specs.Totals.{with_transaction}
use Rattle.profile.specs.declared.Tally.{Tally}
use Rattle.tree.specs.Parts as part
use Rattle.message.specs.declared.Told.{Told}
use Rattle.message.specs.Message as M
use Rattle.message.specs.Message.{is, before, parts, transaction_of, batch_of, cents_of, exact_count, exact_sum}
use Rattle.message.specs.Verdict.{or_else, at, batch_fault, slip, row}
use Rattle.heard.specs.declared.Word.{Word}
use Rattle.heard.specs.State.{if_true, if_any, nothing, opens, fault_from, put_if_room, slip_numbers, row_numbers, State, settled_tally, settled_slips, shut, added, began, saying, inside_batch}
use Rattle.heard.proofs.Fold.{by_bool, fold, stays, none_before, sections, run_view}
use Rattle.heard.proofs.Words.{word_of, saying-word, inside-word, saying-mark, span-word, declared-word, worth_word, count_word, sum-word}

-- ─── 1. A transaction ───

pub record Purse : Type 0 where
  pub tally : Tally
  pub slips : List ℕ

abbrev pub purse : State → Purse
purse st = record { tally = settled_tally st; slips = settled_slips st }

abbrev pub add_transaction : Purse → M.Transaction → Purse
add_transaction v x =
    let y = v.tally in
    record {
      tally = if_any y.batches (with_transaction y (record { 0 = cents_of x })) y;
      slips = if_any y.batches (put_if_room v.slips (12 * (y.transactions.0 + y.count.0)) 12 (slip y.batches x)) v.slips;
    }

-- the words of a transaction, in numbers
slip_words : (k : ℕ) (x : M.Transaction) (said : ℕ → Word) → said part.amount ≡ word_of x.amount → said part.end_to_end ≡ word_of x.end_to_end
    → said part.mandate ≡ word_of x.mandate → said part.debtor_name ≡ word_of x.debtor_name → said part.debtor_account ≡ word_of x.debtor_account
    → said part.remittance ≡ word_of x.remittance → slip_numbers k said ≡ slip k x
slip_words k x said a e m n d r =
    rw (a, e, m, n, d, r)
    (rw (worth_word x.amount, ← span-word x.end_to_end, ← span-word x.mandate, ← span-word x.debtor_name, ← span-word x.debtor_account, ← span-word x.remittance) refl)

-- the open transaction settled, in plain variables
settled_words : (said : ℕ → Word) (y : Tally) (slips : List ℕ) (x : M.Transaction) → (said part.transaction).mark ≡ 1 → (said part.amount).worth ≡ cents_of x
    → slip_numbers y.batches said ≡ slip y.batches x → ◌≡◌ {A = Purse}
    (record {
      tally = if_any y.batches (if_any (said part.transaction).mark (with_transaction y (record { 0 = (said part.amount).worth })) y) y;
      slips = if_any y.batches (if_any (said part.transaction).mark (put_if_room slips (12 * (y.transactions.0 + y.count.0)) 12 (slip_numbers y.batches said)) slips) slips;
    })
    (add_transaction (record { tally = y; slips = slips }) x)
settled_words said y slips x m a s = rw (s, m, a) refl

pub one-transaction : (a : State) (p : List Told) → purse (fold saying (added a) p) ≡ add_transaction (purse a) (transaction_of p)
one-transaction a p =
    let b : State = fold saying (added a) p in
    let x : M.Transaction = transaction_of p in
    let w : (q : ℕ) → opens part.transaction a.said q ≡ nothing → b.said q ≡ word_of (M.the q p) = λ q e. saying-word q none (added a) p e in
    let y : b.tally ≡ settled_tally a = stays saying (λ s. s.tally) (λ s t. refl) (added a) p in
    let s : b.slips ≡ settled_slips a = stays saying (λ s. s.slips) (λ s t. refl) (added a) p in
    settled_words b.said b.tally b.slips x (saying-mark part.transaction (added a) p refl)
    (ap (λ (z : Word). z.worth) (w part.amount refl) ∙ worth_word x.amount)
    (slip_words b.tally.batches x b.said (w part.amount refl) (w part.end_to_end refl) (w part.mandate refl) (w part.debtor_name refl) (w part.debtor_account refl) (w part.remittance refl))
    ∙ ap (λ (v : Purse). add_transaction v x) (λ i. record { tally = y i; slips = s i })

-- ─── 2. The transactions of a batch ───

-- the slips of transactions of the batch k, put from the nth place on
abbrev pub slips_put : ℕ → ℕ → List ℕ → List M.Transaction → List ℕ
slips_put k n out [] = out
slips_put k n out (x ∷ xs) = slips_put k (n + 1) (put_if_room out (12 * n) 12 (slip k x)) xs

abbrev tally_of : ℕ → ℕ → ℕ → ℕ → ℕ → Tally
tally_of k n c m s = record { batches = k; transactions = record { 0 = n }; cents = record { 0 = c }; count = record { 0 = m }; sum = record { 0 = s } }

purse-all : (k n c m s : ℕ) (out : List ℕ) (xs : List M.Transaction) → fold add_transaction (record { tally = tally_of (suc k) n c m s; slips = out }) xs
    ≡ record { tally = tally_of (suc k) n c (m + length xs) (s + total cents_of xs); slips = slips_put (suc k) (n + m) out xs }
purse-all k n c m s out [] = rw (add-zero m, add-zero s) refl
purse-all k n c m s out (x ∷ xs) =
    purse-all k n c (m + 1) (s + cents_of x) (put_if_room out (12 * (n + m)) 12 (slip (suc k) x)) xs
    ∙ same (put_if_room out (12 * (n + m)) 12 (slip (suc k) x)) (omega arith) (omega arith) (omega arith)
  where
    same : (o : List ℕ) {i i' j j' l l' : ℕ} → i ≡ i' → j ≡ j' → l ≡ l' → ◌≡◌ {A = Purse} (record { tally = tally_of (suc k) n c i j; slips = slips_put (suc k) l o xs })
        (record { tally = tally_of (suc k) n c i' j'; slips = slips_put (suc k) l' o xs })
    same o e f g = rw (e, f, g) refl

-- ─── 3. A batch ───

pub record Closed : Type 0 where
  pub batches : ℕ
  pub transactions : ℕ
  pub cents : ℕ
  pub fault : Option Fault
  pub slips : List ℕ
  pub rows : List ℕ

abbrev pub closed_of : State → Closed
closed_of st =
    let a = shut st in
    record { batches = a.tally.batches; transactions = a.tally.transactions.0; cents = a.tally.cents.0; fault = a.fault; slips = a.slips; rows = a.rows }

abbrev pub add_batch : Closed → M.Batch → Closed
add_batch v b = record {
  batches = suc v.batches;
  transactions = v.transactions + exact_count b;
  cents = v.cents + exact_sum b;
  fault = or_else v.fault (batch_fault b);
  slips = slips_put (suc v.batches) v.transactions v.slips b.transactions;
  rows = put_if_room v.rows (8 * v.batches) 8 (row v.transactions b);
}

-- the words of a batch: its fault, and its row in numbers
module _ (k n c : ℕ) (b : M.Batch) (said : ℕ → Word) (d : said part.batch_count ≡ word_of b.declared_count) (e : said part.batch_sum ≡ word_of b.declared_sum) where
  fault_words : fault_from said (tally_of (suc k) n c (exact_count b) (exact_sum b)) ≡ batch_fault b
  fault_words =
      rw (d, e) (λ i. or_else (at 6 (count_word b.declared_count (record { 0 = exact_count b }) i)) (at 7 (sum-word b.declared_sum (record { 0 = exact_sum b }) i)))

  row_words : said part.scheme ≡ word_of b.scheme → said part.sequence ≡ word_of b.sequence → row_numbers said (tally_of (suc k) n c (exact_count b) (exact_sum b)) ≡ row n b
  row_words f g = rw (d, e, f, g) (rw (worth_word b.scheme, worth_word b.sequence, ← declared-word b.declared_count, ← declared-word b.declared_sum) refl)

-- the open batch closed, in plain variables
abbrev close : (ℕ → Word) → Tally → Option Fault → List ℕ → List ℕ → Closed
close said y f slips rows = record {
  batches = y.batches;
  transactions = y.transactions.0 + y.count.0;
  cents = y.cents.0 + y.sum.0;
  fault = if_any y.batches (or_else f (fault_from said y)) f;
  slips = slips;
  rows = if_any y.batches (put_if_room rows (8 * (y.batches - 1)) 8 (row_numbers said y)) rows;
}

close_words : (said : ℕ → Word) (k n c : ℕ) (f : Option Fault) (slips rows : List ℕ) (b : M.Batch) {y : Tally} {f' : Option Fault} {slips' rows' : List ℕ}
    → y ≡ tally_of (suc k) n c (exact_count b) (exact_sum b) → f' ≡ f → slips' ≡ slips → rows' ≡ rows
    → fault_from said (tally_of (suc k) n c (exact_count b) (exact_sum b)) ≡ batch_fault b → row_numbers said (tally_of (suc k) n c (exact_count b) (exact_sum b)) ≡ row n b
    → ◌≡◌ {A = Closed} (close said y f' slips' rows')
    (record { batches = suc k; transactions = n + exact_count b; cents = c + exact_sum b; fault = or_else f (batch_fault b); slips = slips; rows = put_if_room rows (8 * k) 8 (row n b) })
close_words said k n c f slips rows b ey ef es er ff fr =
    let o : suc k - 1 ≡ k = omega arith in
    rw (ey, ef, es, er) (rw (ff, fr, o) refl)

-- inside a batch neither the first fault nor the rows change
inside-fault : (st : State) (t : Told) → (inside_batch st t).fault ≡ st.fault
inside-fault st t = by_bool (λ z. (if_true z (added st) st).fault ≡ st.fault) (is part.transaction t) refl refl

inside-rows : (st : State) (t : Told) → (inside_batch st t).rows ≡ st.rows
inside-rows st t = by_bool (λ z. (if_true z (added st) st).rows ≡ st.rows) (is part.transaction t) refl refl

pub one_batch : (a : State) (p : List Told) → closed_of (fold inside_batch (began a) p) ≡ add_batch (closed_of a) (batch_of p)
one_batch a p =
    let b : State = fold inside_batch (began a) p in
    let m : M.Batch = batch_of p in
    let v : Closed = closed_of a in
    let us : List Told = before part.transaction p in
    let b₀ : State = fold saying (began a) us in
    let w : (q : ℕ) → ltb q part.transaction ≡ true → opens part.batch a.said q ≡ nothing → b.said q ≡ word_of (M.the q p) = λ q h e. inside-word q none (began a) p h e in
    let mark : (b₀.said part.transaction).mark ≡ 0 =
    ap (λ (z : Word). z.mark) (saying-word part.transaction none (began a) us refl ∙ ap (λ (l : List Told). word_of (M.last_or none l)) (none_before part.transaction p)) in
    let start : purse b₀ ≡ record { tally = tally_of (suc v.batches) v.transactions v.cents 0 0; slips = v.slips } =
    unsettled b₀.said mark (stays saying (λ s. s.tally) (λ s t. refl) (began a) us) (stays saying (λ s. s.slips) (λ s t. refl) (began a) us) in
    let full : purse b ≡ record { tally = tally_of (suc v.batches) v.transactions v.cents (exact_count m) (exact_sum m); slips = slips_put (suc v.batches) v.transactions v.slips m.transactions } =
    ap purse (sections part.transaction saying added (began a) p)
    ∙ run_view part.transaction saying added purse add_transaction transaction_of one-transaction b₀ (parts part.transaction p)
    ∙ ap (λ (z : Purse). fold add_transaction z m.transactions) start
    ∙ purse-all v.batches v.transactions v.cents 0 0 v.slips m.transactions
    ∙ rw (zero-add (exact_count m), zero-add (exact_sum m), add-zero v.transactions) refl in
    close_words b.said v.batches v.transactions v.cents v.fault _ v.rows m (ap (λ (z : Purse). z.tally) full)
    (stays inside_batch (λ s. s.fault) inside-fault (began a) p)
    (ap (λ (z : Purse). z.slips) full)
    (stays inside_batch (λ s. s.rows) inside-rows (began a) p)
    (fault_words v.batches v.transactions v.cents m b.said (w part.batch_count refl refl) (w part.batch_sum refl refl))
    (row_words v.batches v.transactions v.cents m b.said (w part.batch_count refl refl) (w part.batch_sum refl refl) (w part.scheme refl refl) (w part.sequence refl refl))
  where
    -- no transaction is open before the first of a batch
    unsettled : (said : ℕ → Word) {y y' : Tally} {slips slips' : List ℕ} → (said part.transaction).mark ≡ 0 → y ≡ y' → slips ≡ slips' → ◌≡◌ {A = Purse}
        (record {
          tally = if_any y.batches (if_any (said part.transaction).mark (with_transaction y (record { 0 = (said part.amount).worth })) y) y;
          slips = if_any y.batches (if_any (said part.transaction).mark (put_if_room slips (12 * (y.transactions.0 + y.count.0)) 12 (slip_numbers y.batches said)) slips) slips;
        })
        (record { tally = y'; slips = slips' })
    unsettled said {y} {y'} {slips} {slips'} m e f = rw (m, e, f) (go y'.batches)
      where
        go : (k : ℕ) → ◌≡◌ {A = Purse} (record { tally = if_any k y' y'; slips = if_any k slips' slips' }) (record { tally = y'; slips = slips' })
        go zero = refl
        go (suc k) = refl
