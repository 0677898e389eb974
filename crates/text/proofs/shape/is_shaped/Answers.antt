use mathlib.Core.Bool.{true}
use mathlib.Core.Path.{◌≡◌, sym}
use Rattle.std.proofs.Common.{rules}
use lib.ListN.{length}
use Rattle.laws.specs.Bytes.{between}
use Rattle.marks.proofs.Classes.{class_span}
use Rattle.text.proofs.shape.is_shaped.Goals as goal
use Rattle.text.proofs.shape.is_shaped.Goals.{then-has_shape, else-has_shape}

pub returns-then-contains : goal.returns-then-contains
returns-then-contains g c p h = elim c.if-has_shape.branch [
  | then-has_shape w ↦
      let k = c.in-Some.ensures.cases in
      let b : between 1 c.args.longest (length c.in-Some.rest.now) ≡ true = search rules in
      rw (← k.2, ← k.1, sym w.if-has_shape.ensures, b, c.run.ensures p h) (sym (class_span p c.in-Some.rest.now))
  | else-has_shape w ↦ cc
]
