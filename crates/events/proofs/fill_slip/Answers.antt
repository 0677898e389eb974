use mathlib.Core.Path.{◌≡◌, refl, ◌∙◌}
use Rattle.tree.specs.Parts as part
use Rattle.heard.specs.Row.{row_of}
use Rattle.events.proofs.Events.{slip_put, slip_texts}
use Rattle.events.proofs.fill_slip.Goals as goal

pub returns : goal.returns
returns c =
    let e : c.copy_from_slice.new.self ≡ slip_texts (row_of c.args.heard.now).said =
    c.copy_from_slice.ensures.after
    ∙ rw (c.last_said-end_to_end.ensures, c.last_said-mandate.ensures, c.last_said-name.ensures, c.last_said-account.ensures, c.last_said-remittance.ensures) refl in
    rw (e, c.last_said.ensures)
    (slip_put c.args.slip.now (slip_texts (row_of c.args.heard.now).said) c.args.k ((row_of c.args.heard.now).said part.amount).worth c.requires refl)
