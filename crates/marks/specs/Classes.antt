-- A CLASS THAT A CLOSURE TELLS, for the code. Not to be believed: no promise to a caller speaks of it but where a closure is passed.
--   Tells answers p   each answer to a byte says whether the byte is of the class p
use Rattle.std.specs.Prelude.{ℕ, ◌<◌, Bool, ◌≡◌}

abbrev pub Tells : (ℕ → Bool → Type 0) → (ℕ → Bool) → Type 0
Tells answers p = (c : ℕ) (b : Bool) → c < 256 → answers c b → b ≡ p c
