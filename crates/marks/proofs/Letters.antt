-- THE LETTER SET, computed: each of the 256 bytes, and each mark of the row.
--   compared, as_compared, letter_ranges   a byte is a letter exactly where comparisons with the ends of ranges say so
--   each-once                              no mark stands twice in the row
use Prim.Native.Nat.{ℕ, ◌<◌}
use mathlib.Core.Bool.{Bool, true, false, not, ◌&&◌, ◌||◌, beq}
use mathlib.Core.List.{[], ◌∷◌}
use mathlib.Core.Path.{◌≡◌, refl}
use lib.Dec.{T, eqb}
use Rattle.laws.specs.Bytes.{Bytes, between, has}
use Rattle.laws.proofs.Below.{every, below}
use Rattle.marks.specs.Marks.{capital, small, letters, letter}

-- a capital or a small letter; one from ' to : but for *; space or ?
abbrev compared : ℕ → Bool
compared c = ((capital c || small c) || (between 39 58 c && not (eqb c 42))) || (eqb c 32 || eqb c 63)

pub as_compared : T (every 256 (λ c. beq (compared c) (letter c)))
as_compared = tt

beq_eq : (a b : Bool) → T (beq a b) → a ≡ b
beq_eq true true t = refl
beq_eq true false t = absurd t
beq_eq false true t = absurd t
beq_eq false false t = refl

pub letter_ranges : (c : ℕ) → c < 256 → compared c ≡ letter c
letter_ranges c h = beq_eq (compared c) (letter c) (below 256 (λ k. beq (compared k) (letter k)) as_compared c h)

abbrev once : Bytes → Bool
once [] = true
once (c ∷ s) = not (has s c) && once s

pub each-once : T (once letters)
each-once = tt
