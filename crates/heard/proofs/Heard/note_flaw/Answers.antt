use Prim.Native.Nat.{ℕ}
use mathlib.Core.Option.{some}
use mathlib.Core.Path.{◌≡◌, refl, ap, ◌∙◌}
use Rattle.std.specs.Prelude.{Option, None, Some}
use Rattle.std.specs.Option.{option_or}
use Rattle.profile.specs.Refusals.{fault, flaw_number}
use Rattle.profile.specs.declared.Flaw.{Flaw}
use Rattle.message.specs.Verdict.{or_else}
use Rattle.heard.specs.Row.{Row, row_of, bad_in}
use Rattle.heard.proofs.Heard.note_flaw.Goals as goal

-- an earlier flaw stays
noted : (o : Option (Flaw × ℕ)) (f : Flaw) (p : ℕ) → bad_in (option_or o (Some (f, p))) ≡ or_else (bad_in o) (some (fault (flaw_number f) p))
noted None f p = refl
noted (Some x) f p = refl

pub returns : goal.returns
unfolding row_of
returns c =
    let w : Row = row_of c.args.self.now in
    λ i. record w { bad = (ap bad_in c.or-self.ensures ∙ noted c.args.self.now.flaw c.args.flaw c.args.start) i }
