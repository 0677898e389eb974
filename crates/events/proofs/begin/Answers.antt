use Prim.Native.Nat.{ℕ}
use mathlib.Core.Path.{ap, sym, ◌∙◌}
use borrow.Author.Rules.{rules}
use Rattle.heard.specs.State.{step}
use Rattle.heard.specs.Row.{state_of}
use Rattle.events.specs.Events.{held_at}
use Rattle.events.proofs.Events.{begins_address, begins_other}
use Rattle.events.proofs.begin.Goals as goal

pub returns-in-18 : goal.returns-in-18
returns-in-18 c =
    let a = c.args in
    begins_address a.place a.start a.size _ _ a.heard.now _ _ _ c.open_address.ensures c.say.ensures
    ∙ ap (λ (k : ℕ). step (state_of a.heard.now a.tally a.slips.now a.rows.now) (held_at k a.place a.start a.size)) (sym c.in-18.is)

pub returns-in_default : goal.returns-in_default
returns-in_default c =
    let a = c.args in
    begins_other _ a.place a.start a.size _ a.heard.now _ _ _
    (record { small = c.requires.0; batch = search rules; transaction = search rules; address = search rules }) c.say-in_default.ensures
