use borrow.Author.Tests.{tests, ne_eqb}
use mathlib.Core.Path.{sym, ◌∙◌}
use Rattle.std.proofs.Common.{rules}
use Rattle.std.proofs.lemmas.Iterator.{YieldsList-from_slice, YieldsList-from_zip}
use Rattle.std.proofs.lemmas.Iterator.Search.{all_from_yields_List}
use Rattle.laws.proofs.Loops.{agree_differ}
use Rattle.marks.specs.Marks.{mark}
use Rattle.marks.proofs.Classes.{agree_zip}
use Rattle.marks.proofs.has_shape.Goals as goal

pub returns-then-text-pattern : goal.returns-then-text-pattern
returns-then-text-pattern c =
    let p = c.args.pattern.now in
    let t = c.args.text.now in
    all_from_yields_List (λ x. mark x.0 x.1) c.all.new.self _ _ c.all.ensures.ran (YieldsList-from_zip (YieldsList-from_slice p cc) (YieldsList-from_slice t cc))
    (λ x b q k. search (rules, tests))
    ∙ agree_zip mark p t c.if-text-pattern.true

pub returns-else-text-pattern : goal.returns-else-text-pattern
returns-else-text-pattern c = rw (agree_differ mark c.args.pattern.now c.args.text.now (λ e. c.if-text-pattern.false (sym e)), ne_eqb _ _ c.if-text-pattern.false)
