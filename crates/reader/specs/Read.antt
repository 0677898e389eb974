-- WHAT READING A MESSAGE PROMISES. Not to be believed: the promise of `check` is promise/specs/Check.
--   Outcome, Unread root s f        what a message comes to; that the refusal f is right of the message s
--   ReadRight root s a r hd sl rw   with a heard before, the answer r, and what is then in what was lent, are right of the message s with this root
--   Bounded n r hd                  where the message was read, the numbers are small at the place n
--   Answers, Rooted                 the same of what follows the declaration, in terms of the reader
use Rattle.std.specs.Prelude.{ℕ, ◌<◌, ◌≤◌, List, [], ◌≡◌, length, drop, Result, Ok, Err}
use Rattle.laws.specs.Bytes.{Bytes}
use Rattle.profile.specs.Limits.{most_bytes}
use Rattle.profile.specs.declared.Refusal.{Refusal}
use Rattle.profile.specs.declared.Refusal.TheVariants.{TooLong, NotOfTheForm}
use Rattle.profile.specs.declared.Tally.{Tally}
use Rattle.tree.specs.declared.Event.{Event}
use Rattle.tree.specs.Form.{Elem, Message, message, message_events, NotOfForm}
use Rattle.tree.specs.Pain008.{declaration}
use Rattle.tree.specs.Reader.{Res, done, stuck, shift, lead}
use Rattle.heard.specs.declared.Heard.{Heard}
use Rattle.heard.specs.State.{State}
use Rattle.heard.specs.Row.{state_of}
use Rattle.heard.specs.Bounds.{Within}
use Rattle.reader.specs.Told.{step_of}
use Rattle.reader.specs.Walk.{fold}

-- what a message comes to: the tally of one that is of the form, or why it is not read
abbrev pub Outcome : Type 0
Outcome = Result Tally Refusal

-- it is longer than the profile allows, or not of the form
abbrev pub Unread : Elem → Bytes → Refusal → Type 0
Unread root s TooLong = most_bytes < length s
Unread root s (NotOfTheForm n) = (length s ≤ most_bytes) × NotOfForm declaration root s n
Unread root s f = ⊥

unfoldable pub ReadRight : Elem → Bytes → State → Outcome → Heard → List ℕ → List ℕ → Type 0
ReadRight root s a (Ok y) hd sl rw =
    (length s ≤ most_bytes) × ((m : Message root) × (message declaration m ≡ s) × (fold State (step_of s) s a (message_events declaration m) ≡ state_of hd y sl rw))
ReadRight root s a (Err f) hd sl rw = Unread root s f

abbrev pub Bounded : {E : Type 0} → ℕ → Result Tally E → Heard → Type 0
Bounded n (Ok y) hd = Within n (state_of hd y [] [])
Bounded n (Err e) hd = Unit {0}

unfoldable pub Answers : Bytes → State → Res → Result Tally ℕ → Heard → List ℕ → List ℕ → Type 0
Answers s a x (Ok y) hd sl rw = (es : List Event) × (x ≡ done es) × (fold State (step_of s) s a es ≡ state_of hd y sl rw)
Answers s a x (Err n) hd sl rw = x ≡ stuck n

abbrev pub Rooted : Elem → Bytes → ℕ → State → Result Tally ℕ → Heard → List ℕ → List ℕ → Type 0
Rooted root s from a r hd sl rw = Answers s a (shift from (lead root from (drop from s))) r hd sl rw
