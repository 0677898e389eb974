-- WHAT WAS HEARD IS RIGHT, for every list of events: after them, with the open batch shut, the totals, the first faults and the two tables are those of the definitions.
--   all-batches, all-transactions, all-cents, all_faults   what all batches add
--   all-slips, all-rows   where there is room, the slips and rows of the batches are put one after the other
--   Quiet, quiet        before the first batch nothing is counted, and nothing put
--   alone, first-bad, over-right   what goes by itself: the first text that breaks its rule, and the place of the element that is one too many
--   heard               what was heard of all events, shut
--   totals-right, fault-right, mix-right, bad-right, batches-right, transactions-right, count-right, sum-right, slips-right, rows_right   THE THEOREMS
use Prim.Native.Nat.{ℕ, zero, suc, ◌+◌, ◌*◌, ◌≤◌}
use native.Mathlib.Nat.{add-zero, zero-add}
use native.Mathlib.Omega.{arith}
use mathlib.Core.Bool.{Bool, true, false}
use mathlib.Core.List.{List, [], ◌∷◌, map}
use mathlib.Core.Option.{Option, none, some}
use mathlib.Core.Path.{◌≡◌, refl, ap, sym, ◌∙◌}
use borrow.Author.Tests.{le-leb}
use lib.ListN.{length, length-append}
use Rattle.laws.specs.Lists.{total, gather}
use Rattle.laws.specs.Put.{put_at}
use Rattle.laws.proofs.Puts.{put_nil, put-append, length-put}
use Rattle.profile.specs.Limits.{most_batches, most_transactions}
use Rattle.profile.specs.Refusals.{Fault}
use Rattle.profile.specs.Totals.{fresh_tally, totals}
use Rattle.tree.specs.Parts as part
use Rattle.message.specs.declared.Told.{Told}
use Rattle.message.specs.Message as M
use Rattle.message.specs.Message.{is, before, parts, all_of, the, batch_of, batches_of, exact_count, exact_sum}
use Rattle.message.specs.Addresses.{parties_of}
use Rattle.message.specs.Verdict.{or_else, first, place_after, broken, first_broken, mix_fault, batch_fault, totals_of, start_and_length, declared, slip, slips_from, slips_of, row, rows_from, rows_of}
use Rattle.heard.specs.declared.Limit.{Limit}
use Rattle.heard.specs.State.{if_true, limit_step, over, put_if_room, State, fresh, shut, added, began, saying, inside_batch, step}
use Rattle.heard.proofs.Fold.{by_bool, or_none, or_assoc, fold, project, sections, run_view}
use Rattle.heard.proofs.Words.{word_of, step-word}
use Rattle.heard.proofs.Addresses.{found, found_right}
use Rattle.heard.proofs.Batches.{slips_put, Closed, closed_of, add_batch, one_batch}

-- ─── 1. All batches ───

abbrev add_all : Closed → List M.Batch → Closed
add_all v bs = fold add_batch v bs

all-batches : (v : Closed) (bs : List M.Batch) → (add_all v bs).batches ≡ v.batches + length bs
all-batches v [] = sym (add-zero _)
all-batches v (b ∷ bs) = all-batches (add_batch v b) bs ∙ omega arith

all-transactions : (v : Closed) (bs : List M.Batch) → (add_all v bs).transactions ≡ v.transactions + total exact_count bs
all-transactions v [] = sym (add-zero _)
all-transactions v (b ∷ bs) = all-transactions (add_batch v b) bs ∙ omega arith

all-cents : (v : Closed) (bs : List M.Batch) → (add_all v bs).cents ≡ v.cents + total exact_sum bs
all-cents v [] = sym (add-zero _)
all-cents v (b ∷ bs) = all-cents (add_batch v b) bs ∙ omega arith

all_faults : (v : Closed) (bs : List M.Batch) → (add_all v bs).fault ≡ or_else v.fault (first (map batch_fault bs))
all_faults v [] = sym (or_none _)
all_faults v (b ∷ bs) = all_faults (add_batch v b) bs ∙ or_assoc v.fault (batch_fault b) (first (map batch_fault bs))

-- ─── 2. The tables ───

put_if : (out : List ℕ) (at n : ℕ) (xs : List ℕ) → at + n ≤ length out → put_if_room out at n xs ≡ put_at out at xs
put_if out at n xs h = rw (le-leb (at + n) (length out) h) refl

length-span : (o : Option Told) → length (start_and_length o) ≡ 2
length-span none = refl
length-span (some t) = refl

length_declared : (o : Option Told) → length (declared o) ≡ 2
length_declared none = refl
length_declared (some t) = refl

length-slip : (k : ℕ) (x : M.Transaction) → length (slip k x) ≡ 12
length-slip k x = simp (length-append, length-span)

length-row : (m : ℕ) (b : M.Batch) → length (row m b) ≡ 8
length-row m b = simp (length-append, length_declared)

length-slips : (k : ℕ) (xs : List M.Transaction) → length (gather (slip k) xs) ≡ 12 * length xs
length-slips k [] = refl
length-slips k (x ∷ xs) = omega (arith, length-append (slip k x) (gather (slip k) xs), length-slip k x, length-slips k xs)

pub length_slips_from : (k : ℕ) (bs : List M.Batch) → length (slips_from k bs) ≡ 12 * total exact_count bs
length_slips_from k [] = refl
length_slips_from k (b ∷ bs) =
    omega (arith, length-append (gather (slip k) b.transactions) (slips_from (suc k) bs), length-slips k b.transactions, length_slips_from (suc k) bs)

pub length_rows_from : (m : ℕ) (bs : List M.Batch) → length (rows_from m bs) ≡ 8 * length bs
length_rows_from m [] = refl
length_rows_from m (b ∷ bs) = omega (arith, length-append (row m b) (rows_from (m + exact_count b) bs), length-row m b, length_rows_from (m + exact_count b) bs)

slips-put : (k n : ℕ) (out : List ℕ) (xs : List M.Transaction) → 12 * (n + length xs) ≤ length out → slips_put k n out xs ≡ put_at out (12 * n) (gather (slip k) xs)
slips-put k n out [] h = sym (put_nil out (12 * n))
slips-put k n out (x ∷ xs) h =
    let a : 12 * n + length (slip k x) ≡ 12 * (n + 1) = omega (arith, length-slip k x) in
    let e : put_if_room out (12 * n) 12 (slip k x) ≡ put_at out (12 * n) (slip k x) = put_if out (12 * n) 12 (slip k x) (omega arith) in
    let l : length (put_at out (12 * n) (slip k x)) ≡ length out = length-put out (12 * n) (slip k x) (omega arith) in
    ap (λ (o : List ℕ). slips_put k (n + 1) o xs) e
    ∙ slips-put k (n + 1) (put_at out (12 * n) (slip k x)) xs (omega arith)
    ∙ ap (λ (j : ℕ). put_at (put_at out (12 * n) (slip k x)) j (gather (slip k) xs)) (sym a)
    ∙ sym (put-append out (12 * n) (slip k x) (gather (slip k) xs) (omega arith))

all-slips : (v : Closed) (bs : List M.Batch) → 12 * (v.transactions + total exact_count bs) ≤ length v.slips
    → (add_all v bs).slips ≡ put_at v.slips (12 * v.transactions) (slips_from (suc v.batches) bs)
all-slips v [] h = sym (put_nil v.slips (12 * v.transactions))
all-slips v (b ∷ bs) h =
    let n : ℕ = v.transactions in
    let k : ℕ = suc v.batches in
    let xs : List ℕ = gather (slip k) b.transactions in
    let e : slips_put k n v.slips b.transactions ≡ put_at v.slips (12 * n) xs = slips-put k n v.slips b.transactions (omega arith) in
    let a : 12 * n + length xs ≡ 12 * (n + exact_count b) = omega (arith, length-slips k b.transactions) in
    let l : length (slips_put k n v.slips b.transactions) ≡ length v.slips = ap length e ∙ length-put v.slips (12 * n) xs (omega arith) in
    all-slips (add_batch v b) bs (omega arith)
    ∙ ap (λ (o : List ℕ). put_at o (12 * (n + exact_count b)) (slips_from (suc k) bs)) e
    ∙ ap (λ (j : ℕ). put_at (put_at v.slips (12 * n) xs) j (slips_from (suc k) bs)) (sym a)
    ∙ sym (put-append v.slips (12 * n) xs (slips_from (suc k) bs) (omega arith))

all-rows : (v : Closed) (bs : List M.Batch) → 8 * (v.batches + length bs) ≤ length v.rows
    → (add_all v bs).rows ≡ put_at v.rows (8 * v.batches) (rows_from v.transactions bs)
all-rows v [] h = sym (put_nil v.rows (8 * v.batches))
all-rows v (b ∷ bs) h =
    let k : ℕ = v.batches in
    let xs : List ℕ = row v.transactions b in
    let e : put_if_room v.rows (8 * k) 8 xs ≡ put_at v.rows (8 * k) xs = put_if v.rows (8 * k) 8 xs (omega arith) in
    let a : 8 * k + length xs ≡ 8 * suc k = omega (arith, length-row v.transactions b) in
    let l : length (put_if_room v.rows (8 * k) 8 xs) ≡ length v.rows = ap length e ∙ length-put v.rows (8 * k) xs (omega arith) in
    all-rows (add_batch v b) bs (omega arith)
    ∙ ap (λ (o : List ℕ). put_at o (8 * suc k) (rows_from (v.transactions + exact_count b) bs)) e
    ∙ ap (λ (j : ℕ). put_at (put_at v.rows (8 * k) xs) j (rows_from (v.transactions + exact_count b) bs)) (sym a)
    ∙ sym (put-append v.rows (8 * k) xs (rows_from (v.transactions + exact_count b) bs) (omega arith))

-- ─── 3. Before the first batch ───

-- nothing is counted, and nothing put
pub record Quiet (a b : State) : Type 0 where
  pub tally : b.tally ≡ fresh_tally
  pub fault : b.fault ≡ a.fault
  pub found : b.mixes.found ≡ a.mixes.found
  pub slips : b.slips ≡ a.slips
  pub rows : b.rows ≡ a.rows

quiet : (a : State) (ts : List Told) → a.tally ≡ fresh_tally → Quiet a (fold inside_batch a ts)
quiet a [] h = record { tally = h; fault = refl; found = refl; slips = refl; rows = refl }
quiet a (t ∷ ts) h = go (one (is part.transaction t)) (λ y. quiet (inside_batch a t) ts y)
  where
    one : (z : Bool) → Quiet a (saying (if_true z (added a) a) t)
    one true = record { tally = rw h refl; fault = refl; found = refl; slips = rw h refl; rows = refl }
    one false = record { tally = h; fault = refl; found = refl; slips = refl; rows = refl }

    go : Quiet a (inside_batch a t) → ((inside_batch a t).tally ≡ fresh_tally → Quiet (inside_batch a t) (fold inside_batch (inside_batch a t) ts)) → Quiet a (fold inside_batch (inside_batch a t) ts)
    go q f =
        let r = f q.tally in
        record { tally = r.tally; fault = r.fault ∙ q.fault; found = r.found ∙ q.found; slips = r.slips ∙ q.slips; rows = r.rows ∙ q.rows }

-- ─── 4. What goes by itself ───

alone : {R : Type 0} (g : State → R) (f : R → Told → R) → ((x : State) (t : Told) → g (saying x t) ≡ f (g x) t) → ((x : State) → g (began x) ≡ g x) → ((x : State) → g (added x) ≡ g x)
    → (st : State) (ts : List Told) → g (fold step st ts) ≡ fold f (g st) ts
unfolding step
alone g f says b a = project step f g (λ x t. in_batch (if_true (is part.batch t) (began x) x) t ∙ by_bool (λ z. f (g (if_true z (began x) x)) t ≡ f (g x) t) (is part.batch t) (ap (λ y. f y t) (b x)) refl)
  where
    in_batch : (x : State) (t : Told) → g (inside_batch x t) ≡ f (g x) t
    in_batch x t = says (if_true (is part.transaction t) (added x) x) t ∙ by_bool (λ z. f (g (if_true z (added x) x)) t ≡ f (g x) t) (is part.transaction t) (ap (λ y. f y t) (a x)) refl

abbrev bad_step : Option Fault → Told → Option Fault
bad_step b t = or_else b (broken t.judged t.start)

first-bad : (b : Option Fault) (ts : List Told) → fold bad_step b ts ≡ or_else b (first_broken ts)
first-bad b [] = sym (or_none b)
first-bad b (t ∷ ts) = first-bad (bad_step b t) ts ∙ or_assoc b (broken t.judged t.start) (first_broken ts)

-- the place of the element that is one too many stays
over-stays : (n p : ℕ) (ts : List Told) → fold (limit_step n) (record { left = 0; place = p }) ts ≡ record { left = 0; place = p }
over-stays n p [] = refl
over-stays n p (t ∷ ts) =
    by_bool (λ z. fold (limit_step n) (if_true z (record { left = 0; place = p }) (record { left = 0; place = p })) ts ≡ record { left = 0; place = p }) (is n t) (over-stays n p ts) (over-stays n p ts)

abbrev over_of : Limit → Option ℕ
over_of l = over l.left l.place

over-right : (n k p : ℕ) (ts : List Told) → over_of (fold (limit_step n) (record { left = suc k; place = p }) ts) ≡ place_after k (all_of n ts)
over-right n k p [] = refl
over-right n zero p (t ∷ ts) =
    by_bool (λ z. over_of (fold (limit_step n) (if_true z (record { left = 0; place = t.place }) (record { left = 1; place = p })) ts) ≡ place_after 0 (elim z [ true ↦ t ∷ all_of n ts | false ↦ all_of n ts ])) (is n t)
    (ap over_of (over-stays n t.place ts)) (over-right n zero p ts)
over-right n (suc k) p (t ∷ ts) =
    by_bool (λ z. over_of (fold (limit_step n) (if_true z (record { left = suc k; place = t.place }) (record { left = suc (suc k); place = p })) ts) ≡ place_after (suc k) (elim z [ true ↦ t ∷ all_of n ts | false ↦ all_of n ts ])) (is n t)
    (over-right n k t.place ts) (over-right n (suc k) p ts)

-- ─── 5. The theorems ───

module _ (slips rows : List ℕ) (ts : List Told) where
  abbrev pub heard : State
  heard = shut (fold step (fresh slips rows) ts)

  abbrev start : Closed
  start = record { batches = 0; transactions = 0; cents = 0; fault = none; slips = slips; rows = rows }

  closed-right : closed_of (fold step (fresh slips rows) ts) ≡ add_all start (batches_of ts)
  unfolding step
  closed-right =
      let a : State = fold inside_batch (fresh slips rows) (before part.batch ts) in
      let q : Quiet (fresh slips rows) a = quiet (fresh slips rows) (before part.batch ts) refl in
      ap closed_of (sections part.batch inside_batch began (fresh slips rows) ts)
      ∙ run_view part.batch inside_batch began closed_of add_batch batch_of one_batch a (parts part.batch ts)
      ∙ ap (λ (v : Closed). add_all v (batches_of ts)) (none_yet a q.tally q.fault q.slips q.rows)
    where
      none_yet : (a : State) → a.tally ≡ fresh_tally → a.fault ≡ none → a.slips ≡ slips → a.rows ≡ rows → closed_of a ≡ start
      none_yet a y f s r = rw (y, f, s, r) refl

  pub totals-right : totals heard.tally ≡ totals_of (batches_of ts)
  totals-right = λ i. record {
    batches = (ap (λ (v : Closed). v.batches) closed-right ∙ all-batches start (batches_of ts) ∙ zero-add _) i;
    transactions = record { 0 = (ap (λ (v : Closed). v.transactions) closed-right ∙ all-transactions start (batches_of ts) ∙ zero-add _) i };
    cents = record { 0 = (ap (λ (v : Closed). v.cents) closed-right ∙ all-cents start (batches_of ts) ∙ zero-add _) i };
  }

  pub fault-right : heard.fault ≡ first (map batch_fault (batches_of ts))
  fault-right = ap (λ (v : Closed). v.fault) closed-right ∙ all_faults start (batches_of ts)

  pub mix-right : heard.mixes.found ≡ first (map mix_fault (parties_of ts))
  mix-right =
      let a : State = fold inside_batch (fresh slips rows) (before part.batch ts) in
      let q : Quiet (fresh slips rows) a = quiet (fresh slips rows) (before part.batch ts) refl in
      found_right (fresh slips rows) ts (none_yet a q.tally q.found)
    where
      none_yet : (a : State) → a.tally ≡ fresh_tally → a.mixes.found ≡ none → found a ≡ none
      none_yet a y f = rw (y, f) refl

  pub slips-right : 12 * total exact_count (batches_of ts) ≤ length slips → heard.slips ≡ put_at slips 0 (slips_of ts)
  slips-right h = ap (λ (v : Closed). v.slips) closed-right ∙ all-slips start (batches_of ts) (omega arith)

  pub rows_right : 8 * length (batches_of ts) ≤ length rows → heard.rows ≡ put_at rows 0 (rows_of ts)
  rows_right h = ap (λ (v : Closed). v.rows) closed-right ∙ all-rows start (batches_of ts) (omega arith)

  pub bad-right : heard.bad ≡ first_broken ts
  bad-right = alone (λ x. x.bad) bad_step (λ x t. refl) (λ x. refl) (λ x. refl) (fresh slips rows) ts ∙ first-bad none ts

  pub batches-right : over heard.batches.left heard.batches.place ≡ place_after most_batches (all_of part.batch ts)
  batches-right = ap over_of (alone (λ x. x.batches) (limit_step part.batch) (λ x t. refl) (λ x. refl) (λ x. refl) (fresh slips rows) ts) ∙ over-right part.batch most_batches 0 ts

  pub transactions-right : over heard.transactions.left heard.transactions.place ≡ place_after most_transactions (all_of part.transaction ts)
  transactions-right =
      ap over_of (alone (λ x. x.transactions) (limit_step part.transaction) (λ x t. refl) (λ x. refl) (λ x. refl) (fresh slips rows) ts) ∙ over-right part.transaction most_transactions 0 ts

  pub count-right : heard.said part.message_count ≡ word_of (the part.message_count ts)
  count-right = step-word part.message_count none (fresh slips rows) ts refl refl refl

  pub sum-right : heard.said part.message_sum ≡ word_of (the part.message_sum ts)
  sum-right = step-word part.message_sum none (fresh slips rows) ts refl refl refl
