-- WHAT WAS HEARD OF ADDRESSES IS RIGHT, for every list of events: the first bad mix of the batches that ended is the first of the definitions.
--   viewed z st      the first bad mix of the open batch with the open address judged, at an early date where z, else at a late one
--   mix_fault_at z q   the fault of the address among the events q at such a date
--   one-party        what a party's events add
--   found st         the first bad mix of the message with the open batch ended; one_batch: what a batch's events add
--   found_right      THE THEOREM
use Prim.Native.Nat.{ℕ, zero, suc, ◌<◌}
use native.Mathlib.Omega.{arith}
use mathlib.Core.Bool.{Bool, true, false}
use mathlib.Core.List.{List, [], ◌∷◌, ◌++◌, map}
use mathlib.Core.Option.{Option, none, some}
use mathlib.Core.Path.{◌≡◌, refl, ap, sym, ◌∙◌}
use borrow.Author.Tests.{le-ltb, ne_eqb}
use lib.Dec.{ltb}
use Rattle.laws.specs.Lists.{gather}
use Rattle.profile.specs.Refusals.{Fault}
use Rattle.tree.specs.Parts as part
use Rattle.message.specs.declared.Told.{Told}
use Rattle.message.specs.Message.{is, before, parts, the, worth_of}
use Rattle.message.specs.Addresses.{unstructured_ends, good_mix, here, address_of, parties_in, parties_of}
use Rattle.message.specs.Verdict.{at, or_else, first, unless_at, place_in, mix_fault}
use Rattle.heard.specs.declared.Word.{Word}
use Rattle.heard.specs.State.{if_true, if_any, nothing, opens, Mixes, marked, address_in, mix_in, judged_mixes, ended_mixes, State, shut, added, began, saying, inside_batch, step}
use Rattle.heard.proofs.Fold.{by_bool, or_none, or_assoc, fold, project, keeps, stays, sections, run_view}
use Rattle.heard.proofs.Words.{word_of, saying-word, inside-word, worth_word}
use Rattle.heard.proofs.Batches as batches
use Rattle.heard.proofs.Batches.{Closed, closed_of}

-- ─── 1. First faults ───

fold-first : (a : Option Fault) (l : List (Option Fault)) → fold or_else a l ≡ or_else a (first l)
fold-first a [] = sym (or_none a)
fold-first a (x ∷ l) = fold-first (or_else a x) l ∙ or_assoc a x (first l)

module _ {A B : Type 0} (f : A → Option Fault) (g : B → List A) where
  first-append : (xs ys : List A) → first (map f (xs ++ ys)) ≡ or_else (first (map f xs)) (first (map f ys))
  first-append [] ys = refl
  first-append (x ∷ xs) ys = ap (or_else (f x)) (first-append xs ys) ∙ sym (or_assoc (f x) (first (map f xs)) (first (map f ys)))

  first-gather : (ps : List B) → first (map f (gather g ps)) ≡ first (map (λ p. first (map f (g p))) ps)
  first-gather [] = refl
  first-gather (p ∷ ps) = first-append (g p) (gather g ps) ∙ ap (or_else (first (map f (g p)))) (first-gather ps)

-- ─── 2. A party ───

abbrev pick : Bool → Mixes → Option Fault
pick z m = if_true z m.early m.late

abbrev viewed : Bool → State → Option Fault
viewed z st = or_else (pick z st.mixes) (mix_in z st.said st.mixes.address)

abbrev mix_fault_at : Bool → List Told → Option Fault
mix_fault_at z q = at 59 (unless_at (good_mix z (address_of q)) (place_in (the part.address q)))

pick-judged : (z : Bool) (said : ℕ → Word) (m : Mixes) → pick z (judged_mixes said m) ≡ or_else (pick z m) (mix_in z said m.address)
pick-judged true said m = refl
pick-judged false said m = refl

marked-word : (o : Option Told) → marked (word_of o) ≡ here o
marked-word none = refl
marked-word (some t) = refl

-- the place of an address, by itself
abbrev open_step : Option ℕ → Told → Option ℕ
open_step o t = if_true (is part.address t) (some t.place) o

one-party : (z : Bool) (a : State) (q : List Told) → a.mixes.address ≡ none → ((p : ℕ) → part.address < p → a.said p ≡ nothing)
    → viewed z (fold saying a q) ≡ or_else (pick z a.mixes) (mix_fault_at z q)
one-party z a q e w =
    let b : State = fold saying a q in
    let kept : pick z b.mixes ≡ pick z a.mixes = stays saying (λ s. pick z s.mixes) (λ s t. by_bool (λ y. pick y (saying s t).mixes ≡ pick y s.mixes) z refl refl) a q in
    let open' : b.mixes.address ≡ place_in (the part.address q) =
    project saying open_step (λ s. s.mixes.address) (λ s t. refl) a q ∙ ap (λ (o : Option ℕ). fold open_step o q) e ∙ keeps part.address (λ t. some t.place) none place_in (λ t. refl) q in
    let has : (p : ℕ) → part.address < p → marked (b.said p) ≡ here (the p q) = λ p h. ap marked (saying-word p none a q (w p h)) ∙ marked-word (the p q) in
    let held : address_in b.said ≡ address_of q =
    λ i. record { detail = has part.address_detail (omega arith) i; town = has part.town (omega arith) i; country = has part.country (omega arith) i; line = has part.address_line (omega arith) i } in
    λ i. or_else (kept i) (at 59 (unless_at (good_mix z (held i)) (open' i)))

-- where an element of the part n begins, nothing is said of the parts after it
opened : (n : ℕ) (said : ℕ → Word) (p : ℕ) → n < p → opens n said p ≡ nothing
opened n said p l = rw (le-ltb p n (omega arith), ne_eqb p n (λ e. absurd (omega arith))) refl

debtor : (z : Bool) (a : State) (q : List Told) → viewed z (fold saying (added a) q) ≡ or_else (viewed z a) (mix_fault_at z q)
debtor z a q = one-party z (added a) q refl (λ p l. opened part.transaction a.said p (omega arith)) ∙ ap (λ (o : Option Fault). or_else o (mix_fault_at z q)) (pick-judged z a.said a.mixes)

creditor : (z : Bool) (a : State) (q : List Told) → viewed z (fold saying (began a) q) ≡ mix_fault_at z q
creditor z a q = one-party z (began a) q (closed (shut a).tally.batches) (λ p l. opened part.batch a.said p (omega arith)) ∙ by_bool (λ y. or_else (if_true y none none) (mix_fault_at z q) ≡ mix_fault_at z q) z refl refl
  where
    closed : (k : ℕ) → (let m = judged_mixes a.said a.mixes in if_any k (ended_mixes (a.said part.collection_date).worth m) m).address ≡ none
    closed zero = refl
    closed (suc k) = refl

-- ─── 3. A batch ───

-- the first bad mix of a batch whose events are p: its creditor's, else its debtors'
in_batch : (z : Bool) (a : State) (p : List Told) → viewed z (fold inside_batch (began a) p) ≡ first (map (mix_fault_at z) (before part.transaction p ∷ parts part.transaction p))
in_batch z a p =
    let b₀ : State = fold saying (began a) (before part.transaction p) in
    ap (viewed z) (sections part.transaction saying added (began a) p)
    ∙ run_view part.transaction saying added (viewed z) or_else (mix_fault_at z) (debtor z) b₀ (parts part.transaction p)
    ∙ ap (λ (o : Option Fault). fold or_else o (map (mix_fault_at z) (parts part.transaction p))) (creditor z a (before part.transaction p))
    ∙ fold-first (mix_fault_at z (before part.transaction p)) (map (mix_fault_at z) (parts part.transaction p))

abbrev batch_mix : List Told → Option Fault
batch_mix p = first (map mix_fault (parties_in p))

-- the parties of a batch have its date
of-parties : (d : ℕ) (qs : List (List Told)) → map (mix_fault_at (ltb d unstructured_ends)) qs ≡ map mix_fault (map (λ q. record { date = d; said = q }) qs)
of-parties d [] = refl
of-parties d (q ∷ qs) = ap (λ (l : List (Option Fault)). mix_fault_at (ltb d unstructured_ends) q ∷ l) (of-parties d qs)

abbrev pub found : State → Option Fault
found st = (shut st).mixes.found

-- a batch ended, in plain variables
ended-found : (said : ℕ → Word) (m : Mixes) (k n : ℕ) (f : Option Fault) (g : Bool → Option Fault) (d : ℕ) → k ≡ suc n → m.found ≡ f → (said part.collection_date).worth ≡ d
    → ((z : Bool) → or_else (pick z m) (mix_in z said m.address) ≡ g z)
    → (let x = judged_mixes said m in if_any k (ended_mixes (said part.collection_date).worth x) x).found ≡ or_else f (g (ltb d unstructured_ends))
ended-found said m k n f g d ek ef ed eg =
    rw (ek, ef, ed) (ap (or_else f) (by_bool (λ z. if_true z (judged_mixes said m).early (judged_mixes said m).late ≡ g z) (ltb d unstructured_ends) (eg true) (eg false)))

inside_found : (st : State) (t : Told) → (inside_batch st t).mixes.found ≡ st.mixes.found
inside_found st t = by_bool (λ z. (if_true z (added st) st).mixes.found ≡ st.mixes.found) (is part.transaction t) refl refl

one_batch : (a : State) (p : List Told) → found (fold inside_batch (began a) p) ≡ or_else (found a) (batch_mix p)
one_batch a p =
    let b : State = fold inside_batch (began a) p in
    let qs : List (List Told) = before part.transaction p ∷ parts part.transaction p in
    let d : ℕ = worth_of (the part.collection_date p) in
    ended-found b.said b.mixes (shut b).tally.batches (closed_of a).batches (found a) (λ z. first (map (mix_fault_at z) qs)) d
    (ap (λ (v : Closed). v.batches) (batches.one_batch a p)) (stays inside_batch (λ s. s.mixes.found) inside_found (began a) p)
    (ap (λ (w : Word). w.worth) (inside-word part.collection_date none (began a) p refl refl) ∙ worth_word (the part.collection_date p)) (λ z. in_batch z a p)
    ∙ ap (λ (l : List (Option Fault)). or_else (found a) (first l)) (of-parties d qs)

-- ─── 4. The theorem ───

pub found_right : (st : State) (ts : List Told) → found (fold inside_batch st (before part.batch ts)) ≡ none → found (fold step st ts) ≡ first (map mix_fault (parties_of ts))
unfolding step
found_right st ts e =
    ap found (sections part.batch inside_batch began st ts)
    ∙ run_view part.batch inside_batch began found or_else batch_mix one_batch (fold inside_batch st (before part.batch ts)) (parts part.batch ts)
    ∙ ap (λ (o : Option Fault). fold or_else o (map batch_mix (parts part.batch ts))) e
    ∙ fold-first none (map batch_mix (parts part.batch ts))
    ∙ sym (first-gather mix_fault parties_in (parts part.batch ts))
