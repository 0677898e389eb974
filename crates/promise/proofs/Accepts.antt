-- WITH TABLES LONG ENOUGH, THE STAGES ACCEPT exactly where what the message says is in the profile and every declaration agrees.
--   room_yes                     a table with room
--   first-none, none_first       the first of a list is none exactly where all are
--   at_none, at_is_none, after-within, within-after   a stage finds nothing: of the limits, exactly where they are kept
--   mix-none, good-mix           an address is good exactly where 59 finds nothing in it
--   profile-passes, in_profile   what a message says is in the profile exactly where 3, 4 and 51 to 59 find nothing
--   accepts             in the profile, and all agree: accepted, with the exact totals
--   accepted-only       accepted: in the profile, and all agree
use Prim.Native.Nat.{ℕ, zero, suc, ◌*◌, ◌≤◌, zero-le, suc-le-suc}
use native.Mathlib.Nat.{not-suc-le-zero, le_of_suc-le-suc}
use native.Mathlib.Omega.{arith}
use mathlib.Core.Bool.{Bool, true, false, not, ◌||◌}
use mathlib.Core.List.{List, [], ◌∷◌, map}
use mathlib.Core.Option.{Option, none, some}
use mathlib.Core.Path.{◌≡◌, refl, ap, sym}
use borrow.Author.Tests.{eq-eqb, eqb-true, le-leb, leb-true}
use lib.Dec.{T, eqb, leb}
use lib.ListN.{length}
use Rattle.std.specs.Prelude.{Err, Ok}
use Rattle.laws.specs.Lists.{total, All}
use Rattle.profile.specs.Limits.{most_batches, most_transactions}
use Rattle.profile.specs.Refusals.{Fault}
use Rattle.profile.specs.declared.Totals.{Totals}
use Rattle.text.specs.Rules.{Judged, good}
use Rattle.tree.specs.Parts as part
use Rattle.message.specs.declared.Told.{Told}
use Rattle.message.specs.Message.{Batch, all_of, the, batches_of, worth, exact_count, exact_sum}
use Rattle.message.specs.Addresses.{here, Party, parties_of, mix_of, good_address}
use Rattle.message.specs.Verdict.{Room, accepted, verdict, at, first, or_else, unless, place_after, broken, first_broken, place_in, unless_at, mix_fault, differs, batch_fault, stages, totals_of, verdict_of}
use Rattle.promise.specs.Demand2.{Agrees, AllAgree, InProfile, Enough}

-- a table with room
room_yes : (n a room : ℕ) → a ≤ room → none ≡ at n (unless (leb a room) a)
room_yes n a room h = rw (le-leb a room h) refl

-- ─── none found ───

Nones : List (Option Fault) → Type 0
Nones l = All (λ o. o ≡ none) l

or_l : (a b : Option Fault) → or_else a b ≡ none → a ≡ none
or_l none b e = refl
or_l (some x) b e = e

or_r : (a b : Option Fault) → or_else a b ≡ none → b ≡ none
or_r none b e = e
or_r (some x) b e = absurd (let z : ◌≡◌ {A = ℕ} 0 1 = cc in omega arith)

first-none : (l : List (Option Fault)) → Nones l → first l ≡ none
unfolding Nones
first-none [] h = refl
first-none (o ∷ l) h = rw h.0 (first-none l h.1)

none_first : (l : List (Option Fault)) → first l ≡ none → Nones l
unfolding Nones
none_first [] e = tt
none_first (o ∷ l) e = (or_l o (first l) e, none_first l (or_r o (first l) e))

pub at_none : (n : ℕ) (o : Option ℕ) → at n o ≡ none → o ≡ none
at_none n none e = refl
at_none n (some p) e = absurd (let z : ◌≡◌ {A = ℕ} 0 1 = cc in omega arith)

pub at_is_none : (n : ℕ) (o : Option ℕ) → o ≡ none → at n o ≡ none
at_is_none n o e = rw e refl

-- ─── stage by stage ───

pub after-within : (k : ℕ) (ts : List Told) → place_after k ts ≡ none → length ts ≤ k
after-within k [] e = zero-le
after-within zero (t ∷ ts) e = absurd (let z : ◌≡◌ {A = ℕ} 0 1 = cc in omega arith)
after-within (suc k) (t ∷ ts) e = suc-le-suc (after-within k ts e)

pub within-after : (k : ℕ) (ts : List Told) → length ts ≤ k → place_after k ts ≡ none
within-after k [] h = refl
within-after zero (t ∷ ts) h = absurd (not-suc-le-zero h)
within-after (suc k) (t ∷ ts) h = within-after k ts (le_of_suc-le-suc h)

unbroken : (j : Judged) (p : ℕ) → broken j p ≡ none → T (good j)
unbroken (Ok n) p e = tt
unbroken (Err f) p e = absurd (let z : ◌≡◌ {A = ℕ} 0 1 = cc in omega arith)

good-unbroken : (j : Judged) (p : ℕ) → T (good j) → broken j p ≡ none
good-unbroken (Ok n) p t = refl
good-unbroken (Err f) p t = absurd t

pub none-broken : (ts : List Told) → first_broken ts ≡ none → All (λ t. T (good t.judged)) ts
none-broken [] e = tt
none-broken (t ∷ ts) e =
    (unbroken t.judged t.start (or_l (broken t.judged t.start) (first_broken ts) e), none-broken ts (or_r (broken t.judged t.start) (first_broken ts) e))

pub broken-none : (ts : List Told) → All (λ t. T (good t.judged)) ts → first_broken ts ≡ none
broken-none [] h = refl
broken-none (t ∷ ts) h = rw (good-unbroken t.judged t.start h.0) (broken-none ts h.1)

pub mix-none : (x : Party) → mix_fault x ≡ none → T (good_address x)
mix-none x e = go (the part.address x.said) (mix_of x) e
  where
    go : (o : Option Told) (z : Bool) → at 59 (unless_at z (place_in o)) ≡ none → T (not (here o) || z)
    go none z e = tt
    go (some t) true e = tt
    go (some t) false e = absurd (let z : ◌≡◌ {A = ℕ} 0 1 = cc in omega arith)

pub good-mix : (x : Party) → T (good_address x) → mix_fault x ≡ none
good-mix x h = go (the part.address x.said) (mix_of x) h
  where
    go : (o : Option Told) (z : Bool) → T (not (here o) || z) → at 59 (unless_at z (place_in o)) ≡ none
    go none true h = refl
    go none false h = refl
    go (some t) true h = refl
    go (some t) false h = absurd h

mixes-good : (xs : List Party) → first (map mix_fault xs) ≡ none → All (λ x. T (good_address x)) xs
mixes-good [] e = tt
mixes-good (x ∷ xs) e = (mix-none x (or_l (mix_fault x) (first (map mix_fault xs)) e), mixes-good xs (or_r (mix_fault x) (first (map mix_fault xs)) e))

good-mixes : (xs : List Party) → All (λ x. T (good_address x)) xs → first (map mix_fault xs) ≡ none
good-mixes [] h = refl
good-mixes (x ∷ xs) h = rw (good-mix x h.0) (good-mixes xs h.1)

unless-none : (b : Bool) (p : ℕ) → unless b p ≡ none → b ≡ true
unless-none true p e = refl
unless-none false p e = absurd (let z : ◌≡◌ {A = ℕ} 0 1 = cc in omega arith)

agrees : (o : Option Told) (n : ℕ) → differs o n ≡ none → Agrees o n
agrees none n e = tt
agrees (some t) n e = eqb-true (worth t) n (unless-none (eqb (worth t) n) t.start e)

agreed : (o : Option Told) (n : ℕ) → Agrees o n → differs o n ≡ none
agreed none n h = refl
agreed (some t) n h = rw (eq-eqb (worth t) n h) refl

abbrev BatchAgrees : Batch → Type 0
BatchAgrees b = Agrees b.declared_count (exact_count b) × Agrees b.declared_sum (exact_sum b)

batches-agree : (bs : List Batch) → first (map batch_fault bs) ≡ none → All BatchAgrees bs
batches-agree [] e = tt
batches-agree (b ∷ bs) e =
    let f : batch_fault b ≡ none = or_l (batch_fault b) (first (map batch_fault bs)) e in
    let x : Option Fault = at 6 (differs b.declared_count (exact_count b)) in
    let y : Option Fault = at 7 (differs b.declared_sum (exact_sum b)) in (
      (agrees b.declared_count (exact_count b) (at_none 6 _ (or_l x y f)), agrees b.declared_sum (exact_sum b) (at_none 7 _ (or_r x y f))),
      batches-agree bs (or_r (batch_fault b) (first (map batch_fault bs)) e),
    )

batches-agreed : (bs : List Batch) → All BatchAgrees bs → first (map batch_fault bs) ≡ none
batches-agreed [] h = refl
batches-agreed (b ∷ bs) h = rw (agreed b.declared_count (exact_count b) h.0.0, agreed b.declared_sum (exact_sum b) h.0.1) (batches-agreed bs h.1)

-- ─── the profile ───

-- 3, 4 and 51 to 59 find nothing
pub record Passes (ts : List Told) : Type 0 where
  pub batches : at 3 (place_after most_batches (all_of part.batch ts)) ≡ none
  pub transactions : at 4 (place_after most_transactions (all_of part.transaction ts)) ≡ none
  pub texts : first_broken ts ≡ none
  pub mixes : first (map mix_fault (parties_of ts)) ≡ none

pub profile-passes : (ts : List Told) → InProfile ts → Passes ts
profile-passes ts p = record {
  batches = at_is_none 3 _ (within-after most_batches (all_of part.batch ts) p.batches);
  transactions = at_is_none 4 _ (within-after most_transactions (all_of part.transaction ts) p.transactions);
  texts = broken-none ts p.texts;
  mixes = good-mixes (parties_of ts) p.addresses;
}

pub in_profile : (ts : List Told) → Passes ts → InProfile ts
in_profile ts p = record {
  batches = after-within most_batches (all_of part.batch ts) (at_none 3 _ p.batches);
  transactions = after-within most_transactions (all_of part.transaction ts) (at_none 4 _ p.transactions);
  texts = none-broken ts p.texts;
  addresses = mixes-good (parties_of ts) p.mixes;
}

-- ─── the theorem ───

verdict-accepted : (o : Option Fault) (y z : Totals) → verdict o y ≡ accepted z → o ≡ none
verdict-accepted none y z e = refl
verdict-accepted (some f) y z e = absurd (let z : ◌≡◌ {A = ℕ} 0 1 = cc in omega arith)

pub accepts : (r : Room) (ts : List Told) → Enough r ts → InProfile ts → AllAgree ts → verdict_of r ts ≡ accepted (totals_of (batches_of ts))
unfolding Nones
accepts r ts e p a =
    let q = profile-passes ts p in
    ap (λ (o : Option Fault). verdict o (totals_of (batches_of ts))) (first-none (stages r ts) (
      q.batches,
      (
        q.transactions,
        (
          q.texts,
          (
            q.mixes,
            (
              batches-agreed (batches_of ts) a.batches,
              (
                at_is_none 8 _ (agreed (the part.message_count ts) _ a.message_count),
                (
                  at_is_none 9 _ (agreed (the part.message_sum ts) _ a.message_sum),
                  (sym (room_yes 10 _ r.slips e.slips), (sym (room_yes 11 _ r.rows e.rows), tt)),
                ),
              ),
            ),
          ),
        ),
      ),
    ))

pub accepted-only : (r : Room) (ts : List Told) (y : Totals) → verdict_of r ts ≡ accepted y → InProfile ts × (AllAgree ts × Enough r ts)
unfolding Nones
accepted-only r ts y e =
    let h = none_first (stages r ts) (verdict-accepted (first (stages r ts)) (totals_of (batches_of ts)) y e) in (
      in_profile ts (record { batches = h.0; transactions = h.1.0; texts = h.1.1.0; mixes = h.1.1.1.0 }),
      (
        record {
          batches = batches-agree (batches_of ts) h.1.1.1.1.0;
          message_count = agrees (the part.message_count ts) _ (at_none 8 _ h.1.1.1.1.1.0);
          message_sum = agrees (the part.message_sum ts) _ (at_none 9 _ h.1.1.1.1.1.1.0);
        },
        record {
          slips = leb-true _ _ (unless-none _ (12 * total exact_count (batches_of ts)) (at_none 10 _ h.1.1.1.1.1.1.1.0));
          rows = leb-true _ _ (unless-none _ (8 * length (batches_of ts)) (at_none 11 _ h.1.1.1.1.1.1.1.1.0));
        },
      ),
    )
