-- AN IDENTIFIER IS A PLAIN TEXT OF AT MOST 35 BYTES WITHOUT SLASHES OUT OF PLACE.
--   identifier-good   of a plain text the slashes decide
use Prim.Native.Nat.{ℕ}
use mathlib.Core.Bool.{Bool, true, false, not}
use mathlib.Core.Path.{◌≡◌, refl}
use lib.ListN.{length}
use Rattle.std.specs.Prelude.{Ok}
use Rattle.laws.specs.Bytes.{Bytes, between, all}
use Rattle.marks.specs.Marks.{letter, slashed}
use Rattle.profile.specs.declared.Flaw.TheVariants.{Length, Letter, Slash}
use Rattle.text.specs.Rules.{Judged, must, plain, identifier}

module _ (s : Bytes) where
  pub identifier-good : (n : ℕ) → plain 35 s ≡ Ok n → must (not (slashed s)) Slash (Ok 0) ≡ identifier s
  identifier-good n = go (between 1 35 (length s)) (all letter s) (must (not (slashed s)) Slash (Ok 0))
    where
      go : (a b : Bool) (j : Judged) → must a Length (must b Letter (Ok 0)) ≡ Ok n → j ≡ must a Length (must b Letter j)
      go true true j e = refl
      go true false j e = cc
      go false b j e = cc
