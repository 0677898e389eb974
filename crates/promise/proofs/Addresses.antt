-- A MESSAGE IS REFUSED WITH 59 AT p EXACTLY WHERE its first address whose mix is bad stands at p, and it meets no refusal before that.
--   mix_first, first-mix   what the stage finds is the first bad address
--   address-refused        THE THEOREM
use Prim.Native.Nat.{ℕ, ◌≤◌}
use native.Mathlib.Omega.{arith}
use mathlib.Core.Bool.{Bool, true, false}
use mathlib.Core.List.{List, [], ◌∷◌, ◌++◌, map}
use mathlib.Core.Option.{Option, none, some}
use mathlib.Core.Path.{◌≡◌, refl, ap, subst, ◌∙◌}
use mathlib.Core.Logic.{◌↔◌}
use lib.Dec.{T}
use lib.ListN.{length}
use Rattle.laws.specs.Bytes.{Bytes}
use Rattle.laws.specs.Lists.{All}
use Rattle.laws.proofs.Counts.{here-not, later-not}
use Rattle.profile.specs.Limits.{most_batches, most_transactions}
use Rattle.profile.specs.Refusals.{Fault, fault}
use Rattle.profile.specs.Numbers.{TextNumber}
use Rattle.profile.proofs.Faults.{flaw-number}
use Rattle.text.specs.Rules.{good}
use Rattle.tree.specs.Form.{Message}
use Rattle.tree.specs.Pain008.{document}
use Rattle.tree.specs.Parts as part
use Rattle.message.specs.declared.Told.{Told}
use Rattle.message.specs.Message.{all_of, the}
use Rattle.message.specs.Addresses.{Party, parties_of, mix_of, good_address}
use Rattle.message.specs.Verdict.{Room, Verdict, at, first, or_else, first_broken, place_in, unless_at, mix_fault}
use Rattle.promise.specs.Check.{said_by, room_of, Checks}
use Rattle.promise.specs.Addresses.{BadMixAt, AddressBreaks}
use Rattle.promise.proofs.Accepts.{none-broken, broken-none, good-mix}
use Rattle.promise.proofs.Numbers.{broken_among, passed, mixes, rest, rest_among}
use Rattle.promise.proofs.Stops.{past-limits, within-limits, Stops, At, Stopped, stage_refused}

-- ─── the stage of the addresses ───

abbrev Fine : Party → Type 0
Fine x = T (good_address x)

pub mix_first : (xs : List Party) (x : Fault) → first (map mix_fault xs) ≡ some x → BadMixAt xs x.place
mix_first [] x e = absurd (let z : ◌≡◌ {A = ℕ} 0 1 = cc in omega arith)
mix_first (y ∷ ys) x e = go (the part.address y.said) (mix_of y) refl refl e (λ r. mix_first ys x r)
  where
    later : T (good_address y) → BadMixAt ys x.place → BadMixAt (y ∷ ys) x.place
    later g b = record { party = b.party; first = later-not Fine y b.party ys g b.first; address = b.address; found = b.found; place = b.place }

    go : (o : Option Told) (z : Bool) → the part.address y.said ≡ o → mix_of y ≡ z → or_else (at 59 (unless_at z (place_in o))) (first (map mix_fault ys)) ≡ some x
        → (first (map mix_fault ys) ≡ some x → BadMixAt ys x.place) → BadMixAt (y ∷ ys) x.place
    go none true a g e r = later (rw a tt) (r e)
    go none false a g e r = later (rw a tt) (r e)
    go (some t) true a g e r = later (rw (a, g) tt) (r e)
    go (some t) false a g e r =
        let h : fault 59 t.place ≡ x = cc in
        record { party = y; first = here-not Fine y ys (λ k. rw (a, g) at k); address = t; found = a; place = ap (λ (z : Fault). z.place) h }

pub first-mix : (xs : List Party) (p : ℕ) → BadMixAt xs p → first (map mix_fault xs) ≡ some (fault 59 p)
first-mix xs p b = ap (λ (l : List Party). first (map mix_fault l)) b.first.whole ∙ go b.first.before b.first.held
  where
    bad : (z : Bool) → mix_of b.party ≡ z → (rest : Option Fault) → or_else (at 59 (unless_at z (place_in (the part.address b.party.said)))) rest ≡ some (fault 59 p)
    bad true g rest = absurd (b.first.fails (rw (b.found, g) tt))
    bad false g rest = rw (b.found, b.place) refl

    go : (us : List Party) → All Fine us → first (map mix_fault (us ++ b.party ∷ b.first.after)) ≡ some (fault 59 p)
    go [] h = bad (mix_of b.party) refl (first (map mix_fault b.first.after))
    go (u ∷ us) h = ap (λ (o : Option Fault). or_else o (first (map mix_fault (us ++ b.party ∷ b.first.after)))) (good-mix u h.0) ∙ go us h.1

-- ─── the theorem ───

module _ (r : Room) (ts : List Told) (p : ℕ) where
  -- the message is within the limits, all its texts are good, and the mix of an address is bad
  abbrev Breaks : Type 0
  Breaks =
      (length (all_of part.batch ts) ≤ most_batches)
      × ((length (all_of part.transaction ts) ≤ most_transactions) × (All (λ t. T (good t.judged)) ts × BadMixAt (parties_of ts) p))

  stops-mix : Stops r ts 59 p → Breaks
  stops-mix (x, (e, (n, d))) =
      let y = past-limits r ts x (omega (arith, n)) e in
      let z = passed TextNumber (first_broken ts) (or_else (mixes r ts) (rest r ts)) x (broken_among TextNumber ts flaw-number) y.1.1 (λ h. omega (arith, n, h)) in
      (y.0, (y.1.0, (none-broken ts z.0, subst (λ (k : ℕ). BadMixAt (parties_of ts) k) d (mix_first (parties_of ts) x (go (mixes r ts) z.1)))))
    where
      go : (o : Option Fault) → or_else o (rest r ts) ≡ some x → o ≡ some x
      go none e = let h = rest_among r ts (λ k. k ≤ 11) (λ k a. a.1) x e in absurd (omega (arith, n, h))
      go (some g) e = e

  mix-stops : Breaks → Stops r ts 59 p
  mix-stops (h, (k, (g, b))) =
      (fault 59 p, (within-limits r ts h k ∙ (λ i. or_else (broken-none ts g i) (or_else (first-mix (parties_of ts) p b i) (rest r ts))), (refl, refl)))

module _ (s : Bytes) (slips rows : List ℕ) (v : Verdict) (a b : List ℕ) (c : Checks s slips rows v a b) (p : ℕ) where
  pub address-refused : At s slips rows v a b c 59 p ↔ ((m : Message document) × AddressBreaks s m p)
  address-refused = (λ x. to (refused'.0 x), λ x. refused'.1 (from x))
    where
      refused' : At s slips rows v a b c 59 p ↔ ((m : Message document) × Stopped s slips rows v a b c 59 p m)
      refused' = stage_refused s slips rows v a b c 59 p (omega arith)

      to : (m : Message document) × Stopped s slips rows v a b c 59 p m → (m : Message document) × AddressBreaks s m p
      to (m, t) =
          let y = stops-mix (room_of slips rows) (said_by m) p t.stops in
          (m, record { short = t.short; bytes = t.bytes; batches = y.0; transactions = y.1.0; texts = y.1.1.0; breaks = y.1.1.1 })

      from : (m : Message document) × AddressBreaks s m p → (m : Message document) × Stopped s slips rows v a b c 59 p m
      from (m, t) = (m, record { short = t.short; bytes = t.bytes; stops = mix-stops (room_of slips rows) (said_by m) p (t.batches, (t.transactions, (t.texts, t.breaks))) })
