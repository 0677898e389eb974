use mathlib.Core.Path.{refl}
use mathlib.Core.Logic.{inl, inr}
use Rattle.text.specs.declared.Rule.TheVariants.{Name, Remittance, AddressLine, AddressCode, Town}
use Rattle.look.proofs.Looks.{seen-identifier, seen_plain}
use Rattle.look.proofs.look_at.Goals as goal
use Rattle.look.proofs.look_at.Goals.{in-Identifier, in-Name, in-Remittance, in-AddressCode, in-Town}

pub returns : goal.returns
returns c =
    let a = c.args in
    let plain = seen_plain a.s.now a.at c.requires.0 a.rule c.look_plain.result c.match-rule.least c.look_plain.ensures in
    elim c.match-rule.branch [
      | in-Identifier w ↦ seen-identifier a.s.now a.at c.requires.0 a.rule c.look_plain.result c.match-rule.least c.look_plain.ensures w.in-Identifier.is w.least-is
      | in-Name w ↦ elim w.in-Name.is [ inl e ↦ plain Name 70 (λ x. refl) e w.least-is | inr e ↦ plain AddressLine 70 (λ x. refl) e w.least-is ]
      | in-Remittance w ↦ plain Remittance 140 (λ x. refl) w.in-Remittance.is w.least-is
      | in-AddressCode w ↦ plain AddressCode 16 (λ x. refl) w.in-AddressCode.is w.least-is
      | in-Town w ↦ plain Town 35 (λ x. refl) w.in-Town.is w.least-is
    ]
