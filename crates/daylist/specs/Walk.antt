-- A WALK OVER THE LINES of a list, for the code. Not to be believed: no promise to a caller speaks of it.
--   after r j          a line that is judged good leaves it to those after it
--   walked f k ls      the first of the lines ls that f refuses, each with its number; k lines stand before ls. Ok: the number of lines
--   Judges answers f   each answer to a line, to whether LF ends it and to its number is that of f
use Rattle.std.specs.Prelude.{ℕ, ◌+◌, Bool, List, [], ◌∷◌, ◌≡◌, Result, Ok, Err}
use Rattle.std.specs.Borrow.{Bor}
use Rattle.laws.specs.Bytes.{Bytes}
use Rattle.profile.specs.declared.ListRefusal.{ListRefusal}
use Rattle.frames.specs.Lines.{Line}
use Rattle.daylist.specs.Stages.{JudgedList}

abbrev pub after : Result (Unit {0}) ListRefusal → JudgedList → JudgedList
after (Ok u) j = j
after (Err r) j = Err r

abbrev pub walked : (ℕ → Line → Result (Unit {0}) ListRefusal) → ℕ → List Line → JudgedList
walked f k [] = Ok k
walked f k (l ∷ ls) = after (f (k + 1) l) (walked f (k + 1) ls)

abbrev pub Judges : (Bor Bytes → Bool → ℕ → Result (Unit {0}) ListRefusal → Type 0) → (ℕ → Line → Result (Unit {0}) ListRefusal) → Type 0
Judges answers f = (s : Bor Bytes) (e : Bool) (n : ℕ) (r : Result (Unit {0}) ListRefusal) → answers s e n r → r ≡ f n (record { bytes = s.now; ended = e })
