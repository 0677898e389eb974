use Prim.Native.Nat.{◌-◌}
use native.Mathlib.Omega.{arith}
use borrow.Author.Rules.{rules}
use lib.ListN.{drop, drop_of_length-le, length-drop}
use Rattle.heard.specs.Row.{Row, row_of}
use Rattle.heard.proofs.Unsaid.{forgotten}
use Rattle.heard.proofs.Heard.forget.Goals as goal

pub returns : goal.returns
unfolding row_of
returns c =
    let a = c.args in
    let w : Row = row_of a.self.now in
    let none_left = drop_of_length-le (drop a.from a.self.now.said) {i = 23 - a.from} (omega (arith, length-drop a.from a.self.now.said)) in
    λ i. record w { said = λ p. forgotten a.self.now.said _ _ a.from _ p (omega arith) (c.fill.ensures.after (λ y h. search rules)) none_left i }
