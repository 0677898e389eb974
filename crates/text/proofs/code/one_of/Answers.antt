use Prim.Native.Nat.{ℕ}
use Rattle.std.proofs.Common.{rules}
use Rattle.std.specs.Prelude.{Option, None, Some}
use Rattle.std.specs.Option.{MatchOption, IsSomeAnd}
use borrow.Author.Tests.{tests}
use mathlib.Core.Path.{◌≡◌, ap, ◌∙◌}
use Rattle.std.proofs.lemmas.Iterator.{YieldsList-from_slice}
use Rattle.std.proofs.lemmas.Iterator.Search.{position_from_yields_List}
use Rattle.std.proofs.lemmas.Iterator.Adapters.{position_from-zero}
use Rattle.laws.specs.Bytes.{same}
use Rattle.text.proofs.Codes.{code-placed}
use Rattle.text.proofs.code.one_of.Goals as goal

-- a place becomes the number that is stated
mapped : {P : ℕ → ℕ → Type 0} (same : (x y : ℕ) → P x y → y ≡ x) (o r : Option ℕ) → MatchOption o (r ≡ None) (λ x. IsSomeAnd r (P x)) → r ≡ o
mapped f None r e = e
mapped f (Some x) None e = absurd e
mapped f (Some x) (Some y) e = ap Some (f x y e)

pub returns : goal.returns
returns c =
    let ws = c.args.words.now in
    let s = c.args.text.now in
    let e = position_from_yields_List (λ w. same s w.now) c.position.new.self _ c.position.result c.position.ensures.ran (YieldsList-from_slice ws cc) (λ x b q k. search (rules, tests)) ∙ position_from-zero (λ w. same s w.now) ws in
    let m : c.map.result ≡ c.position.result = mapped (λ x y p. search rules) c.position.result c.map.result c.map.ensures.cases in
    c.ok_or.ensures.value ∙ rw (m, e) (code-placed s 0 ws)
