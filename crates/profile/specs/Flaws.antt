-- THE FLAW THAT A NUMBER NAMES, as `Flaw::from` says it. Not to be believed: that each flaw comes back from its own number is proofs/Faults.
--   flaw_of n   the flaw whose number is n; the check digits for every other number
use Rattle.std.specs.Prelude.{ℕ, Bool, true, false, List, [], ◌∷◌, eqb}
use Rattle.profile.specs.declared.Flaw.{Flaw}
use Rattle.profile.specs.declared.Flaw.TheVariants.{Length, Letter, Slash, Number, Date, Code, Shape, CheckDigits}
use Rattle.profile.specs.Refusals.{flaw_number}

-- the flaw f where a test holds, else g
abbrev pub pick : Bool → Flaw → Flaw → Flaw
pick true f g = f
pick false f g = g

-- the first of the flaws that has the number n
abbrev pub numbered : ℕ → List Flaw → Flaw
numbered n [] = CheckDigits
numbered n (f ∷ fs) = pick (eqb n (flaw_number f)) f (numbered n fs)

abbrev pub flaw_of : ℕ → Flaw
flaw_of n = numbered n (Length ∷ Letter ∷ Slash ∷ Number ∷ Date ∷ Code ∷ Shape ∷ [])
