-- A WALK OF THE CHECK over the message's events, which answers and fills the tables that it is lent; and what the check makes of it.
--   events-said       what is heard of the events is what is heard of what they say
--   Walked, walked    what reading promised; within-begun: at the beginning the numbers are small
--   Read, was_read    what a message that was read says, and what was heard of it
--   small, totals-fit what was read keeps its numbers small
--   verdict-refused, verdict-judged   the answer of a walk
--   filled-refused, filled            the tables of a walk
--   Passed            an accepted message is read, its totals are the exact ones, and the tables have room for it
--   check_refused, check_accepted   the check: refused; accepted, and the tables filled
use Prim.Native.Nat.{ℕ, ◌+◌, ◌≤◌}
use native.Mathlib.Omega.{arith}
use mathlib.Core.List.{List, [], ◌∷◌}
use mathlib.Core.Option.{Option, none, some}
use mathlib.Core.Path.{◌≡◌, refl, ap, sym, subst, subst⁻¹, ◌∙◌}
use mathlib.Core.Logic.{inl, inr}
use lib.ListN.{length}
use Rattle.std.specs.Prelude.{Err, Ok}
use Rattle.laws.specs.Bytes.{Bytes}
use Rattle.profile.specs.Limits.{most_bytes}
use Rattle.profile.specs.Refusals.{Fault}
use Rattle.profile.specs.Totals.{fresh_tally}
use Rattle.profile.specs.declared.Refusal.{Refusal}
use Rattle.profile.specs.declared.Refusal.TheVariants.{TooLong, NotOfTheForm}
use Rattle.profile.specs.declared.Tally.{Tally}
use Rattle.profile.specs.declared.Totals.{Totals}
use Rattle.tree.specs.declared.Event.{Event}
use Rattle.tree.specs.Form.{Message, message, message_events}
use Rattle.tree.specs.Pain008.{document, declaration}
use Rattle.message.specs.declared.Told.{Told}
use Rattle.message.specs.Message.{tell, told, batches_of}
use Rattle.message.specs.Verdict.{Room, accepted, verdict, first, stages, totals_of, verdict_of}
use Rattle.heard.specs.declared.Heard.{Heard}
use Rattle.heard.specs.State.{State, fresh, step}
use Rattle.heard.specs.Row.{Row, state_of}
use Rattle.heard.specs.Bounds.{Within}
use Rattle.heard.proofs.Fold.{fold}
use Rattle.heard.proofs.Bounds.{within-fresh, within_more}
use Rattle.heard.proofs.Right.{slips-right, rows_right}
use Rattle.events.specs.Events.{Finished}
use Rattle.answer.specs.Said.{Checked, said}
use Rattle.answer.specs.Answer.{answer}
use Rattle.answer.proofs.Right.{totals-small, verdict-right}
use Rattle.reader.specs.Told.{step_of}
use Rattle.reader.specs.Walk as walk
use Rattle.reader.specs.Read.{ReadRight, Bounded, Outcome}
use Rattle.promise.specs.Check.{said_by, room_of, Checks}
use Rattle.promise.specs.Demand2.{Enough}
use Rattle.checking.specs.Inner.{Verdicts, Fills}
use Rattle.promise.proofs.Accepts.{accepted-only}
use Rattle.promise.proofs.Outcome.{same-said}

events-said : (s : Bytes) (st : State) (es : List Event) → walk.fold State (step_of s) s st es ≡ fold step st (tell s es)
unfolding step_of
events-said s st [] = refl
events-said s st (e ∷ es) = events-said s (step st (told s e)) es

-- what reading promised of a message s, where nothing was heard before: the answer, and what was then in what it was lent
pub record Walked (s : Bytes) (slips rows a b : List ℕ) (hd : Heard) (o : Outcome) : Type 0 where
  pub right : ReadRight document s (fresh slips rows) o hd a b
  pub within : Bounded (length s) o hd

-- what was heard and the tally at the beginning
module _ (hd₀ : Heard) (y₀ : Tally) (g : (sl rw : List ℕ) → state_of hd₀ fresh_tally sl rw ≡ fresh sl rw) (f : y₀ ≡ fresh_tally) where
  begun : (slips rows : List ℕ) → state_of hd₀ y₀ slips rows ≡ fresh slips rows
  begun slips rows = ap (λ (y : Tally). state_of hd₀ y slips rows) f ∙ g slips rows

  pub within-begun : Within 0 (state_of hd₀ y₀ [] [])
  within-begun = subst⁻¹ (Within 0) (begun [] []) (within-fresh [] [])

  pub walked : {s : Bytes} {slips rows a b : List ℕ} {hd : Heard} {o : Outcome} → ReadRight document s (state_of hd₀ y₀ slips rows) o hd a b → Bounded (length s) o hd
      → Walked s slips rows a b hd o
  walked {s} {slips} {rows} {a} {b} {hd} {o} h w = record { right = subst (λ (st : State). ReadRight document s st o hd a b) (begun slips rows) h; within = w }

module _ {s : Bytes} {slips rows a b : List ℕ} {hd : Heard} {o : Outcome} (h : Walked s slips rows a b hd o) where
  seen : (x : Outcome) → o ≡ x → ReadRight document s (fresh slips rows) x hd a b
  seen x e = subst (λ (z : Outcome). ReadRight document s (fresh slips rows) z hd a b) e h.right

  record Read (y : Tally) : Type 0 where
    pub short : length s ≤ most_bytes
    pub read : Message document
    pub bytes : message declaration read ≡ s
    pub ends : state_of hd y a b ≡ fold step (fresh slips rows) (said_by read)

  was_read : (y : Tally) → o ≡ Ok y → Read y
  unfolding ReadRight
  was_read y e =
      let q = seen (Ok y) e in
      let m : Message document = q.1.0 in
      record {
        short = q.0;
        read = m;
        bytes = q.1.1;
        ends = sym q.1.2 ∙ events-said s (fresh slips rows) (message_events declaration m) ∙ ap (λ (x : Bytes). fold step (fresh slips rows) (tell x (message_events declaration m))) (sym q.1.1);
      }

  pub small : (y : Tally) → o ≡ Ok y → Within most_bytes (state_of hd y [] [])
  small y e = within_more (subst (λ (z : Outcome). Bounded (length s) z hd) e h.within) (was_read y e).short

  -- the totals after the last event
  pub totals-fit : (y : Tally) → o ≡ Ok y → (w : Row) (z : Totals) (a' b' : List ℕ) → Finished (state_of hd y a b) w z a' b'
      → (z.transactions.0 ≤ most_bytes + 1) × (z.batches ≤ most_bytes + 1)
  totals-fit y e w z a' b' q = totals-small most_bytes (state_of hd y [] []) z (small y e) q.totals

  pub verdict-refused : (room : Room) (f : Refusal) → o ≡ Err f → Verdicts s room (Err f)
  unfolding ReadRight Verdicts
  verdict-refused room TooLong e = inl (seen (Err TooLong) e, refl)
  verdict-refused room (NotOfTheForm n) e = let y = seen (Err (NotOfTheForm n)) e in inr (inl (y.0, (n, (y.1, refl))))
  verdict-refused room f e = absurd (seen (Err f) e)

  pub filled-refused : (a' b' : List ℕ) (f : Refusal) → o ≡ Err f → Fills s slips rows a' b'
  unfolding ReadRight Fills
  filled-refused a' b' TooLong e l m y n = absurd (omega (arith, seen (Err TooLong) e, l))
  filled-refused a' b' (NotOfTheForm p) e l m y n = absurd ((seen (Err (NotOfTheForm p)) e).1.0 (m, y))
  filled-refused a' b' f e l m y n = absurd (seen (Err f) e)

  -- after the last event
  module _ (y : Tally) (e : o ≡ Ok y) (w : Row) (z : Totals) (a' b' : List ℕ) (q : Finished (state_of hd y a b) w z a' b') where
    ended : Finished (fold step (fresh slips rows) (said_by (was_read y e).read)) w z a' b'
    ended = subst (λ (st : State). Finished st w z a' b') (was_read y e).ends q

    pub verdict-judged : (room : Room) (r : Checked) → said r ≡ answer room w z → Verdicts s room r
    unfolding Verdicts
    verdict-judged room r v =
        let x = was_read y e in
        let d = ended in
        inr (inr (x.short, (x.read, (x.bytes, v ∙ verdict-right slips rows (said_by x.read) w z room d.said d.bad d.batches d.transactions d.fault d.mixes d.totals))))

    pub filled : Fills s slips rows a' b'
    unfolding Fills
    filled _ m j n =
        let x = was_read y e in
        let d : Finished (fold step (fresh slips rows) (said_by m)) w z a' b' =
        subst (λ (ts : List Told). Finished (fold step (fresh slips rows) ts) w z a' b') (same-said x.read m s x.bytes j) ended in
        (d.slips ∙ slips-right slips rows (said_by m) n.slips, d.rows ∙ rows_right slips rows (said_by m) n.rows)

module _ (s : Bytes) (slips rows a b : List ℕ) where
  pub check_refused : (f : Refusal) → Verdicts s (room_of slips rows) (Err f) → a ≡ slips → b ≡ rows → Checks s slips rows (said (Err f)) a b
  unfolding Verdicts
  check_refused f (inl (h, e)) p q = record { case = inl (record { long = h; answer = e; slips-kept = p; rows-kept = q }) }
  check_refused f (inr (inl (h, (n, (x, e))))) p q =
      record { case = inr (inl (record { short = h; place = n; not_of_form = x; answer = e; slips-kept = p; rows-kept = q })) }
  check_refused f (inr (inr (h, (m, (e, v))))) p q = record { case = inr (inr (record { short = h; read = m; bytes = e; answer = v; slips_are = p; rows_are = q })) }

verdict-totals : (o : Option Fault) (y z : Totals) → verdict o y ≡ accepted z → z ≡ y
verdict-totals none y z e = cc
verdict-totals (some f) y z e = absurd (let z : ◌≡◌ {A = ℕ} 0 1 = cc in omega arith)

module _ (s : Bytes) (room : Room) (t : Totals) (v : Verdicts s room (Ok t)) where
  -- an accepted message is read; its totals are the exact ones, and the tables have room for it
  record Passed : Type 0 where
    pub short : length s ≤ most_bytes
    pub read : Message document
    pub bytes : message declaration read ≡ s
    pub answer : said (Ok t) ≡ verdict_of room (said_by read)
    pub totals : t ≡ totals_of (batches_of (said_by read))
    pub enough : Enough room (said_by read)

  passed : Passed
  unfolding Verdicts
  passed = go v
    where
      go : Verdicts s room (Ok t) → Passed
      go (inl (h, e)) = absurd (let z : ◌≡◌ {A = ℕ} 0 1 = cc in omega arith)
      go (inr (inl (h, (n, (x, e))))) = absurd (let z : ◌≡◌ {A = ℕ} 0 1 = cc in omega arith)
      go (inr (inr (h, (m, (e, v))))) =
          record { short = h; read = m; bytes = e; answer = v; totals = verdict-totals (first (stages room (said_by m))) (totals_of (batches_of (said_by m))) t (sym v); enough = (accepted-only room (said_by m) t (sym v)).1.1 }

module _ (s : Bytes) (slips rows slips' rows' : List ℕ) (t : Totals) (v : Verdicts s (room_of slips rows) (Ok t)) where
  pub check_accepted : Fills s slips rows slips' rows' → Checks s slips rows (said (Ok t)) slips' rows'
  unfolding Fills
  check_accepted f =
      let y = passed s (room_of slips rows) t v in
      let g = f y.short y.read y.bytes y.enough in
      record { case = inr (inr (record { short = y.short; read = y.read; bytes = y.bytes; answer = y.answer; slips_are = g.0; rows_are = g.1 })) }
