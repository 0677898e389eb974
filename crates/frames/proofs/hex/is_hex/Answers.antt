use Rattle.frames.proofs.Digits.{hex_odd, hex-all}
use borrow.Author.Tests.{ne_eqb}
use mathlib.Core.Path.{sym, ◌∙◌}
use Rattle.frames.proofs.hex.is_hex.Goals as goal

pub returns-then-line-eq0 : goal.returns-then-line-eq0
returns-then-line-eq0 c = c.all_digits.ensures ∙ sym (hex-all c.args.line.now c.if-line-eq0.true)

pub returns-else-line-eq0 : goal.returns-else-line-eq0
returns-else-line-eq0 c = ne_eqb _ 0 c.if-line-eq0.false ∙ sym (hex_odd c.args.line.now c.if-line-eq0.false)
