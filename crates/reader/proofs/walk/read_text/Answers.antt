use mathlib.Core.Path.{sym, subst}
use Rattle.tree.specs.Form.{in_text}
use Rattle.events.specs.Events.{Plain}
use Rattle.scan.proofs.Scans.{run_in}
use Rattle.plan.proofs.Held.{known_in}
use Rattle.reader.proofs.Elements.{plain-part}
use Rattle.reader.proofs.walk.read_text.Goals as goal

pub number-part-requires : goal.number-part-requires
number-part-requires c = (known_in _ _ c.requires.known).row

pub hear_text-end-requires : goal.hear_text-end-requires
hear_text-end-requires c =
    let p = c.requires in
    (p.room, (p.known.ranks, subst Plain (sym c.number-part.ensures.0) (plain-part c.args.t.now c.args.e p.known c.args.rule p.kind)))

pub read_close-requires : goal.read_close-requires
read_close-requires c = (c.requires.known, (run_in in_text c.args.s.now c.args.start _ c.requires.room c.hear_text-end.ensures.run).1)
