-- THE ANSWER IS THE VERDICT, for every list of events.
--   mix-found        the first bad mix is one
--   batch-found      the first fault of a batch is of its count or its sum
--   totals-small     the totals are small enough for the answer
--   verdict-right    THE THEOREM
use Prim.Native.Nat.{ℕ, ◌+◌, ◌*◌, ◌≤◌}
use native.Mathlib.Omega.{arith}
use mathlib.Core.List.{List, [], ◌∷◌, map}
use mathlib.Core.Option.{Option, none, some}
use mathlib.Core.Path.{◌≡◌, refl, ap, ◌∙◌}
use lib.Dec.{leb}
use Rattle.profile.specs.Refusals.{Fault}
use Rattle.profile.specs.Totals.{count_differs, sum_differs, totals}
use Rattle.profile.specs.declared.Totals.{Totals}
use Rattle.tree.specs.Parts as part
use Rattle.message.specs.declared.Told.{Told}
use Rattle.message.specs.Message as M
use Rattle.message.specs.Message.{the, batches_of, exact_count, exact_sum}
use Rattle.message.specs.Addresses.{Party, parties_of, mix_of}
use Rattle.message.specs.Verdict.{Room, Verdict, verdict, at, first, or_else, unless, unless_at, place_in, mix_fault, differs, batch_fault, totals_of, verdict_of}
use Rattle.heard.specs.declared.Limit.{Limit}
use Rattle.heard.specs.declared.Word.{Word}
use Rattle.heard.specs.State.{when, Mixes, over, count_of, sum_of, State, shut}
use Rattle.heard.specs.Row.{Row}
use Rattle.heard.specs.Bounds.{Within}
use Rattle.heard.proofs.Words.{word_of, count_word, sum-word}
use Rattle.heard.proofs.Right.{heard, totals-right, fault-right, mix-right, bad-right, batches-right, transactions-right, count-right, sum-right}
use Rattle.heard.proofs.Bounds.{settled-small}
use Rattle.answer.specs.Answer.{mix_found, batch_found, answer}

mix-found : (xs : List Party) → mix_found (first (map mix_fault xs)) ≡ first (map mix_fault xs)
mix-found [] = refl
mix-found (x ∷ xs) = go (unless_at (mix_of x) (place_in (the part.address x.said))) (mix-found xs)
  where
    go : (p : Option ℕ) {f : Option Fault} → mix_found f ≡ f → mix_found (or_else (at 59 p) f) ≡ or_else (at 59 p) f
    go none e = e
    go (some p) e = refl

found_or : (a b : Option Fault) → batch_found a ≡ a → batch_found b ≡ b → batch_found (or_else a b) ≡ or_else a b
found_or none b e f = f
found_or (some a) b e f = e

batch-found : (bs : List M.Batch) → batch_found (first (map batch_fault bs)) ≡ first (map batch_fault bs)
batch-found [] = refl
batch-found (b ∷ bs) = found_or (batch_fault b) (first (map batch_fault bs)) (one (differs b.declared_count (exact_count b)) (differs b.declared_sum (exact_sum b))) (batch-found bs)
  where
    one : (p q : Option ℕ) → batch_found (or_else (at 6 p) (at 7 q)) ≡ or_else (at 6 p) (at 7 q)
    one none none = refl
    one none (some q) = refl
    one (some p) q = refl

pub totals-small : (p : ℕ) (st : State) (y : Totals) → Within p st → y ≡ totals (shut st).tally → (y.transactions.0 ≤ p + 1) × (y.batches ≤ p + 1)
totals-small p st y w e =
    let s = settled-small p st w in
    let a : y.transactions.0 ≡ (shut st).tally.transactions.0 = ap (λ (x : Totals). x.transactions.0) e in
    let b : y.batches ≡ (shut st).tally.batches = ap (λ (x : Totals). x.batches) e in
    (omega (arith, s.transactions, a), omega (arith, s.batches, b))

-- what the stages find, put together
abbrev together : Room → Option ℕ → Option ℕ → Option Fault → Option Fault → Option Fault → Option ℕ → Option ℕ → Totals → Verdict
together r a b c m f d e y =
    verdict (first (
    at 3 a ∷ at 4 b ∷ c ∷ m ∷ f ∷ at 8 d ∷ at 9 e
    ∷ at 10 (unless (leb (12 * y.transactions.0) r.slips) (12 * y.transactions.0)) ∷ at 11 (unless (leb (8 * y.batches) r.rows) (8 * y.batches)) ∷ []))
    y

together-same : (r : Room) {a a' b b' : Option ℕ} {c c' m m' f f' : Option Fault} {d d' e e' : Option ℕ} {y y' : Totals}
    → a ≡ a' → b ≡ b' → c ≡ c' → m ≡ m' → f ≡ f' → d ≡ d' → e ≡ e' → y ≡ y' → together r a b c m f d e y ≡ together r a' b' c' m' f' d' e' y'
together-same r pa pb pc pm pf pd pe py = rw (pa, pb, pc, pm, pf, pd, pe, py) refl

-- for the row w and the totals y of what was heard of the events ts, with the open batch shut
module _ (slips rows : List ℕ) (ts : List Told) (w : Row) (y : Totals) where
  abbrev st : State
  st = heard slips rows ts

  pub verdict-right : (r : Room) → w.said ≡ st.said → w.bad ≡ st.bad → w.batches ≡ st.batches → w.transactions ≡ st.transactions → w.fault ≡ st.fault → w.mixes ≡ st.mixes → y ≡ totals st.tally
      → answer r w y ≡ verdict_of r ts
  verdict-right r said bad batches transactions fault mixes tally =
      let e : y ≡ totals_of (batches_of ts) = tally ∙ totals-right slips rows ts in
      together-same r
      (ap (λ (l : Limit). over l.left l.place) batches ∙ batches-right slips rows ts)
      (ap (λ (l : Limit). over l.left l.place) transactions ∙ transactions-right slips rows ts)
      (bad ∙ bad-right slips rows ts)
      (ap (λ (m : Mixes). mix_found m.found) mixes ∙ ap mix_found (mix-right slips rows ts) ∙ mix-found (parties_of ts))
      (ap batch_found (fault ∙ fault-right slips rows ts) ∙ batch-found (batches_of ts))
      (header part.message_count (λ v. when (count_differs (count_of v) y.transactions) v.start) (count-right slips rows ts) ∙ count_word (the part.message_count ts) y.transactions
      ∙ ap (λ (z : Totals). differs (the part.message_count ts) z.transactions.0) e)
      (header part.message_sum (λ v. when (sum_differs (sum_of v) y.cents) v.start) (sum-right slips rows ts) ∙ sum-word (the part.message_sum ts) y.cents
      ∙ ap (λ (z : Totals). differs (the part.message_sum ts) z.cents.0) e)
      e
    where
      header : (p : ℕ) (f : Word → Option ℕ) → st.said p ≡ word_of (the p ts) → f (w.said p) ≡ f (word_of (the p ts))
      header p f h = ap (λ (v : ℕ → Word). f (v p)) said ∙ ap f h
