-- WHAT AN EVENT DOES, arm by arm, in plain variables.
--   begins_batch, begins_transaction, begins_address, begins_other   an element begins
--   text-step                      what is heard of a text is the step
--   put_none, put_lent             no room for a slip or a row; the stretch that was lent comes back
--   slip_texts, slip_put           the texts of a slip; two numbers, and its texts after them
use Prim.Native.Nat.{ℕ, ◌+◌, ◌-◌, ◌≤◌, ◌<◌}
use native.Mathlib.Omega.{arith}
use mathlib.Core.Bool.{Bool}
use mathlib.Core.List.{List, [], ◌∷◌, ◌++◌}
use mathlib.Core.Option.{none}
use mathlib.Core.Path.{◌≡◌, refl, ap, sym, ◌∙◌}
use borrow.Author.Tests.{ne_eqb, le-leb, lt-leb}
use lib.Dec.{eqb, ltb}
use borrow.Rule.Slice.PartMut.{put_mid}
use lib.ListN.{length, set, take, drop, length-set}
use Rattle.laws.specs.Lists.{gather}
use Rattle.laws.specs.Put.{put_at}
use Rattle.laws.proofs.Puts.{put_two, put-append, put_back, put_all}
use Rattle.laws.proofs.Tests.{eqb-cases}
use Rattle.profile.specs.Totals.{begun}
use Rattle.profile.specs.declared.Tally.{Tally}
use Rattle.text.specs.Rules.{Judged}
use Rattle.text.specs.Rules as rules
use Rattle.tree.specs.Parts as part
use Rattle.message.specs.declared.Told.{Told}
use Rattle.message.specs.Verdict.{or_else, broken}
use Rattle.heard.specs.declared.Heard.{Heard}
use Rattle.heard.specs.declared.Limit.{Limit}
use Rattle.heard.specs.declared.Word.{Word}
use Rattle.heard.specs.State.{if_true, nothing, opens, fewer, judged_mixes, begun_mixes, put_if_room, State, settled_tally, settled_slips, shut, saying, step, slip_parts}
use Rattle.heard.specs.Row.{Row, row_of, state_of, state_with, with_said, without_from, with_bad, with_batch_counted, with_transaction_counted, with_mixes, with_address}
use Rattle.heard.proofs.Fold.{or_none}
use Rattle.events.specs.Events.{told_row, held_at, Plain}

-- a row whose first flaw is looked at
bad-none : (w : Row) → w ≡ with_bad w none
bad-none w = λ i. record { said = w.said; bad = sym (or_none w.bad) i; batches = w.batches; transactions = w.transactions; fault = w.fault; mixes = w.mixes }

-- ─── what ends ───

-- the row with the open address judged
abbrev judged_row : Row → Row
judged_row w = with_mixes w (judged_mixes w.said w.mixes)

-- where the texts of a slip start, and how long they are
abbrev pub slip_texts : (ℕ → Word) → List ℕ
slip_texts said = gather (λ p. (said p).start ∷ (said p).length ∷ []) slip_parts

-- a slip: two numbers, and the texts after them
pub slip_put : (l ys : List ℕ) (k w : ℕ) → length l ≡ 12 → length ys ≡ 10
    → put_mid 2 (length (set (set l 0 k) 1 w) - 2) (set (set l 0 k) 1 w) ys ≡ k ∷ w ∷ ys
slip_put l ys k w h n =
    let e : length (set (set l 0 k) 1 w) ≡ 12 = simp length-set h in
    put_back (set (set l 0 k) 1 w) ys 2 (length (set (set l 0 k) 1 w)) (omega (arith, e)) (omega (arith, e, n))
    ∙ ap (λ (o : List ℕ). put_at o 2 ys) (put_two l 0 k w (omega arith))
    ∙ sym (put-append l 0 (k ∷ w ∷ []) ys (omega arith))
    ∙ put_all l (k ∷ w ∷ ys) (h ∙ omega (arith, n))

-- ─── an element begins ───

abbrev word_at : ℕ → ℕ → Word
word_at a n = record { mark = 1; start = a; length = n; worth = 0 }

-- what was said where an element of the part n begins
opened : (n : ℕ) (x : Word) (u : ℕ → Word) (p : ℕ) → if_true (eqb n p) x (if_true (ltb p n) (u p) nothing) ≡ if_true (eqb n p) x (opens n u p)
opened n x u p =
    eqb-cases (λ z. if_true z x (if_true (ltb p n) (u p) nothing) ≡ if_true z x (opens n u p)) n p (λ e. refl)
    (λ d. ap (λ (z : Bool). if_true (ltb p n) (u p) (if_true z (record { mark = 1; start = 0; length = 0; worth = 0 }) nothing)) (sym (ne_eqb p n (λ e. d (sym e)))))

module _ (place a n : ℕ) (ms m₁ m₂ m₃ m₄ : Heard) (cl r : Tally) (s rows : List ℕ) (st : State) where
  pub begins_batch : state_of m₁ cl s rows ≡ shut st → row_of m₂ ≡ with_mixes (row_of m₁) (begun_mixes (row_of m₁).mixes) → row_of m₃ ≡ without_from (row_of m₂) part.batch
      → row_of m₄ ≡ with_batch_counted (row_of m₃) place → row_of ms ≡ with_said (row_of m₄) part.batch (word_at a n) → r ≡ begun cl → state_of ms r s rows ≡ step st (held_at part.batch place a n)
  unfolding step
  begins_batch e₁ e₂ e₃ e₄ e₅ e₆ =
      (λ i. state_with ((e₅ ∙ ap (λ (w : Row). with_said w part.batch (word_at a n)) (e₄ ∙ ap (λ (w : Row). with_batch_counted w place) (e₃ ∙ ap (λ (w : Row). without_from w part.batch) e₂))) i) (e₆ i) s rows)
      ∙ (λ i. begun_from (e₁ i))
      ∙ (λ i. record {
        said = λ p. opened part.batch (word_at a n) (shut st).said p i;
        bad = sym (or_none (shut st).bad) i;
        batches = fewer_of (shut st).batches;
        transactions = (shut st).transactions;
        fault = (shut st).fault;
        mixes = begun_mixes (shut st).mixes;
        tally = begun (shut st).tally;
        slips = (shut st).slips;
        rows = (shut st).rows;
      })
    where
      fewer_of : Limit → Limit
      fewer_of l = fewer l.left l.place place

      begun_from : State → State
      begun_from x = record {
        said = λ p. if_true (eqb part.batch p) (word_at a n) (if_true (ltb p part.batch) (x.said p) nothing);
        bad = x.bad;
        batches = fewer_of x.batches;
        transactions = x.transactions;
        fault = x.fault;
        mixes = begun_mixes x.mixes;
        tally = begun x.tally;
        slips = x.slips;
        rows = x.rows;
      }

module _ (place a n : ℕ) (ms m₁ m₂ m₃ m₄ : Heard) (y r : Tally) (s s' : List ℕ) where
  pub begins_transaction : r ≡ settled_tally (state_of m₁ y s []) → s' ≡ settled_slips (state_of m₁ y s []) → row_of m₂ ≡ judged_row (row_of m₁) → row_of m₃ ≡ without_from (row_of m₂) part.transaction
      → row_of m₄ ≡ with_transaction_counted (row_of m₃) place → row_of ms ≡ with_said (row_of m₄) part.transaction (word_at a n)
      → (rows : List ℕ) → state_of ms r s' rows ≡ step (state_of m₁ y s rows) (held_at part.transaction place a n)
  unfolding step
  begins_transaction e₁ e₂ e₃ e₄ e₅ e₆ rows =
      let w : Row = row_of m₁ in
      (λ i. state_with ((e₆ ∙ ap (λ (x : Row). with_said x part.transaction (word_at a n)) (e₅ ∙ ap (λ (x : Row). with_transaction_counted x place) (e₄ ∙ ap (λ (x : Row). without_from x part.transaction) e₃))) i) (e₁ i) (e₂ i) rows)
      ∙ (λ i. record {
        said = λ p. opened part.transaction (word_at a n) w.said p i;
        bad = sym (or_none w.bad) i;
        batches = w.batches;
        transactions = fewer w.transactions.left w.transactions.place place;
        fault = w.fault;
        mixes = judged_mixes w.said w.mixes;
        tally = settled_tally (state_of m₁ y s []);
        slips = settled_slips (state_of m₁ y s []);
        rows = rows;
      })

pub begins_address : (place a n : ℕ) (ms m₁ ns : Heard) (y : Tally) (s r : List ℕ) → row_of m₁ ≡ with_address (row_of ns) place → row_of ms ≡ with_said (row_of m₁) part.address (word_at a n)
    → state_of ms y s r ≡ step (state_of ns y s r) (held_at part.address place a n)
unfolding step
begins_address place a n ms m₁ ns y s r e f = λ i. state_with ((f ∙ ap (λ (w : Row). with_said w part.address (word_at a n)) e ∙ bad-none _) i) y s r

-- an element that begins none of the three only says something
plain_step : (st : State) (t : Told) → Plain t.part → saying st t ≡ step st t
unfolding step
plain_step st t q = rw (ne_eqb t.part part.batch q.batch, ne_eqb t.part part.transaction q.transaction) refl

plain-saying : (st : State) (t : Told) → Plain t.part → ◌≡◌ {A = State}
    (record {
      said = λ p. if_true (eqb t.part p) (record { mark = 1; start = t.start; length = t.length; worth = rules.number_told t.judged }) (st.said p);
      bad = or_else st.bad (broken t.judged t.start);
      batches = st.batches;
      transactions = st.transactions;
      fault = st.fault;
      mixes = st.mixes;
      tally = st.tally;
      slips = st.slips;
      rows = st.rows;
    }) (saying st t)
plain-saying st t q = rw (ne_eqb t.part part.batch q.batch, ne_eqb t.part part.transaction q.transaction, ne_eqb t.part part.address q.address) refl

-- what is heard of a text is the step
pub text-step : (w : Row) (t : Told) (y : Tally) (s r : List ℕ) → Plain t.part → state_with (told_row w t.part t.start t.length t.judged) y s r ≡ step (state_with w y s r) t
text-step w t y s r q = plain-saying (state_with w y s r) t q ∙ plain_step (state_with w y s r) t q

pub begins_other : (p place a n : ℕ) (ms ns : Heard) (y : Tally) (s r : List ℕ) → Plain p → row_of ms ≡ with_said (row_of ns) p (word_at a n)
    → state_of ms y s r ≡ step (state_of ns y s r) (held_at p place a n)
begins_other p place a n ms ns y s r q e =
    (λ i. state_with ((e ∙ bad-none _) i) y s r) ∙ plain-saying (state_of ns y s r) (held_at p place a n) q ∙ plain_step (state_of ns y s r) (held_at p place a n) q

-- ─── a slip or a row is put ───

module _ (out : List ℕ) (a n : ℕ) (xs : List ℕ) where
  pub put_none : length out < a + n → out ≡ put_if_room out a n xs
  put_none h = rw (lt-leb (a + n) (length out) h) refl

  pub put_lent : (ys : List ℕ) → a + n ≤ length out → length xs ≡ n → ys ≡ xs → take a out ++ (ys ++ drop (a + n - a) (drop a out)) ≡ put_if_room out a n xs
  put_lent ys h z y = rw y (put_back out xs a (a + n) (omega arith) (omega arith) ∙ sym (rw (le-leb (a + n) (length out) h) refl))
