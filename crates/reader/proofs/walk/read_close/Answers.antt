use Prim.Native.Nat.{max}
use borrow.Author.Rules.{rules}
use Rattle.plan.proofs.Held.{known_in}
use Rattle.reader.proofs.Maps.{mapped, close-maps}
use Rattle.reader.proofs.walk.read_close.Goals as goal

pub closes-requires : goal.closes-requires
closes-requires c = (c.requires.1, known_in _ _ c.requires.0)

pub returns : goal.returns
returns c =
    let a = c.args in
    close-maps a.t.now a.s.now a.e a.far a.at c.closes.result c.map_err.result c.closes.ensures
    (mapped c.closes.result c.map_err.result _ (max a.far) (λ p m h. search rules) c.map_err.ensures.cases)
