use native.Mathlib.Omega.{arith}
use mathlib.Core.Path.{sym, ◌∙◌}
use Rattle.text.proofs.Shapes.{front_four, shaped_longer, shaped-letters}
use Rattle.text.proofs.shape.checked.Goals as goal

pub leaves_one-requires : goal.leaves_one-requires
leaves_one-requires g c =
    let a = c.args in
    let k = c.requires.class in
    let four = front_four a.front.now c.requires.front in
    let e = sym (c.is_shaped.ensures k.0 k.1) ∙ c.if-not-is_shaped.false in (
      omega (arith, four),
      omega (arith, four, shaped_longer a.front.now a.longest k.0 a.text.now e),
      shaped-letters a.front.now a.longest k.0 a.text.now k.2 c.requires.front e,
    )
