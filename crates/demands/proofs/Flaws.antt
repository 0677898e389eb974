-- EACH OF 51 TO 58 IS THE NUMBER OF A FLAW.
--   by_flaw   what holds of the number of each flaw, of one of 51 to 58
use Prim.Native.Nat.{ℕ, ◌+◌, ◌-◌}
use native.Mathlib.Omega.{arith}
use mathlib.Core.Logic.{◌↔◌}
use mathlib.Core.Path.{◌≡◌, sym, subst}
use lib.Dec.{eqb, eqb→eq}
use Rattle.laws.proofs.Below.{below}
use Rattle.profile.specs.declared.Flaw.{Flaw}
use Rattle.profile.specs.Refusals.{flaw_number}
use Rattle.profile.specs.Numbers.{TextNumber}
use Rattle.profile.specs.Flaws.{flaw_of}
use Rattle.profile.proofs.Faults.{flaw-number}

numbered : (n : ℕ) → TextNumber n → n ≡ flaw_number (flaw_of n)
numbered n t =
    let z : 51 + (n - 51) ≡ n = omega arith in
    subst (λ (k : ℕ). k ≡ flaw_number (flaw_of k)) z
    (eqb→eq (51 + (n - 51)) (flaw_number (flaw_of (51 + (n - 51)))) (below 8 (λ k. eqb (51 + k) (flaw_number (flaw_of (51 + k)))) tt (n - 51) (omega arith)))

pub by_flaw : (n : ℕ) (Q : Type 0) (B : Flaw → Type 0) → ((f : Flaw) → ((n ≡ flaw_number f) × Q) ↔ B f) → (TextNumber n × Q) ↔ ((f : Flaw) × B f)
by_flaw n Q B h = (to, from)
  where
    to : TextNumber n × Q → (f : Flaw) × B f
    to (t, q) = (flaw_of n, (h (flaw_of n)).0 (numbered n t, q))

    from : (f : Flaw) × B f → TextNumber n × Q
    from (f, b) = let x = (h f).1 b in (subst TextNumber (sym x.0) (flaw-number f), x.1)
