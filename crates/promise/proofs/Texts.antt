-- A MESSAGE IS REFUSED WITH THE NUMBER OF A FLAW AT p EXACTLY WHERE its first text that breaks its rule starts at p and has that flaw.
--   broken-first, first-broken   what the stage of the texts finds is the first text that breaks its rule
--   text-refused                 THE THEOREM
use Prim.Native.Nat.{ℕ, ◌≤◌}
use native.Mathlib.Omega.{arith}
use mathlib.Core.List.{List, [], ◌∷◌, ◌++◌}
use mathlib.Core.Option.{Option, none, some}
use mathlib.Core.Path.{◌≡◌, refl, ap, subst, ◌∙◌}
use mathlib.Core.Logic.{◌↔◌}
use lib.Dec.{T}
use lib.ListN.{length}
use Rattle.std.specs.Prelude.{Err, Ok}
use Rattle.laws.specs.Bytes.{Bytes}
use Rattle.laws.specs.Lists.{All}
use Rattle.laws.proofs.Counts.{here-not, later-not}
use Rattle.profile.specs.Limits.{most_batches, most_transactions}
use Rattle.profile.specs.Refusals.{Fault, fault, flaw_number}
use Rattle.profile.specs.declared.Flaw.{Flaw}
use Rattle.profile.proofs.Faults.{flaw-number, flaw-once}
use Rattle.text.specs.Rules.{Judged, good}
use Rattle.tree.specs.Form.{Message}
use Rattle.tree.specs.Pain008.{document}
use Rattle.tree.specs.Parts as part
use Rattle.message.specs.declared.Told.{Told}
use Rattle.message.specs.Message.{all_of}
use Rattle.message.specs.Addresses.{parties_of}
use Rattle.message.specs.Verdict.{Room, Verdict, or_else, broken, first_broken}
use Rattle.promise.specs.Check.{said_by, room_of, Checks}
use Rattle.promise.specs.Texts.{BreaksAt, TextBreaks}
use Rattle.promise.proofs.Numbers.{parties_among, passed, mixes, rest, rest_among}
use Rattle.promise.proofs.Stops.{past-limits, within-limits, Stops, At, Stopped, stage_refused}

-- ─── the stage of the texts ───

abbrev Fine : Told → Type 0
Fine t = T (good t.judged)

pub broken-first : (ts : List Told) (x : Fault) (f : Flaw) → first_broken ts ≡ some x → x.number ≡ flaw_number f → BreaksAt ts f x.place
broken-first [] x f e d = absurd (let z : ◌≡◌ {A = ℕ} 0 1 = cc in omega arith)
broken-first (t ∷ ts) x f e d = go t.judged refl e (λ r. broken-first ts x f r d)
  where
    go : (j : Judged) → t.judged ≡ j → or_else (broken j t.start) (first_broken ts) ≡ some x → (first_broken ts ≡ some x → BreaksAt ts f x.place) → BreaksAt (t ∷ ts) f x.place
    go (Ok n) g e r = let b = r e in record { text = b.text; first = later-not Fine t b.text ts (rw g tt) b.first; flaw = b.flaw; start = b.start }
    go (Err h) g e r =
        let y : fault (flaw_number h) t.start ≡ x = cc in
        record {
          text = t;
          first = here-not Fine t ts (λ k. rw g at k);
          flaw = g ∙ ap Err (flaw-once h f (ap (λ (z : Fault). z.number) y ∙ d));
          start = ap (λ (z : Fault). z.place) y;
        }

pub first-broken : (ts : List Told) (f : Flaw) (p : ℕ) → BreaksAt ts f p → first_broken ts ≡ some (fault (flaw_number f) p)
first-broken ts f p b = ap first_broken b.first.whole ∙ go b.first.before b.first.held
  where
    step : (i : Judged) (q : ℕ) (rest : Option Fault) → T (good i) → or_else (broken i q) rest ≡ rest
    step (Ok m) q rest t = refl
    step (Err f) q rest t = absurd t

    go : (us : List Told) → All Fine us → first_broken (us ++ b.text ∷ b.first.after) ≡ some (fault (flaw_number f) p)
    go [] h = rw (b.flaw, b.start) refl
    go (u ∷ us) h = step u.judged u.start (first_broken (us ++ b.text ∷ b.first.after)) h.0 ∙ go us h.1

-- ─── the theorem ───

module _ (r : Room) (ts : List Told) (f : Flaw) (p : ℕ) where
  -- the message is within the limits, and a text of it breaks its rule
  abbrev Breaks : Type 0
  Breaks = (length (all_of part.batch ts) ≤ most_batches) × ((length (all_of part.transaction ts) ≤ most_transactions) × BreaksAt ts f p)

  stops-text : Stops r ts (flaw_number f) p → Breaks
  stops-text (x, (e, (n, d))) =
      let y = past-limits r ts x (omega (arith, n, flaw-number f)) e in
      (y.0, (y.1.0, subst (λ (k : ℕ). BreaksAt ts f k) d (broken-first ts x f (go (first_broken ts) y.1.1) n)))
    where
      go : (o : Option Fault) → or_else o (or_else (mixes r ts) (rest r ts)) ≡ some x → o ≡ some x
      go none e =
          let z = passed (λ k. k ≡ 59) (mixes r ts) (rest r ts) x (parties_among (λ k. k ≡ 59) (parties_of ts) refl) e (λ h. omega (arith, n, h, flaw-number f)) in
          let h = rest_among r ts (λ k. k ≤ 11) (λ k a. a.1) x z.1 in
          absurd (omega (arith, n, h, flaw-number f))
      go (some g) e = e

  text-stops : Breaks → Stops r ts (flaw_number f) p
  text-stops (h, (k, b)) =
      (fault (flaw_number f) p, (within-limits r ts h k ∙ ap (λ (o : Option Fault). or_else o (or_else (mixes r ts) (rest r ts))) (first-broken ts f p b), (refl, refl)))

module _ (s : Bytes) (slips rows : List ℕ) (v : Verdict) (a b : List ℕ) (c : Checks s slips rows v a b) (f : Flaw) (p : ℕ) where
  pub text-refused : At s slips rows v a b c (flaw_number f) p ↔ ((m : Message document) × TextBreaks s m f p)
  text-refused = (λ x. to (refused'.0 x), λ x. refused'.1 (from x))
    where
      refused' : At s slips rows v a b c (flaw_number f) p ↔ ((m : Message document) × Stopped s slips rows v a b c (flaw_number f) p m)
      refused' = stage_refused s slips rows v a b c (flaw_number f) p (omega (arith, flaw-number f))

      to : (m : Message document) × Stopped s slips rows v a b c (flaw_number f) p m → (m : Message document) × TextBreaks s m f p
      to (m, t) =
          let y = stops-text (room_of slips rows) (said_by m) f p t.stops in
          (m, record { short = t.short; bytes = t.bytes; batches = y.0; transactions = y.1.0; breaks = y.1.1 })

      from : (m : Message document) × TextBreaks s m f p → (m : Message document) × Stopped s slips rows v a b c (flaw_number f) p m
      from (m, t) = (m, record { short = t.short; bytes = t.bytes; stops = text-stops (room_of slips rows) (said_by m) f p (t.batches, (t.transactions, t.breaks)) })
