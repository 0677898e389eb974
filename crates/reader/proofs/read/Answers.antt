use Prim.Native.Nat.{ℕ, ◌<◌, max}
use native.Mathlib.Omega.{arith}
use mathlib.Core.Path.{◌≡◌, sym, ◌∙◌}
use lib.ListN.{drop}
use borrow.Author.Rules.{rules}
use Rattle.profile.specs.declared.Refusal.TheVariants.{NotOfTheForm}
use Rattle.tree.specs.Form.{Elem}
use Rattle.tree.specs.Reader.{shift, farther, lead, read}
use Rattle.tree.specs.Pain008.{declaration}
use Rattle.reader.specs.Read.{ReadRight}
use Rattle.scan.proofs.Scans.{common_in}
use Rattle.reader.proofs.Maps.{mapped}
use Rattle.reader.proofs.Roots.{with_declaration, without-declaration, read_is}
use Rattle.reader.proofs.read.Goals as goal
use Rattle.reader.proofs.read.Goals.{then-n-eq38, else-n-eq38}

pub returns-then-message-gt-BYTES-clause-right : goal.returns-then-message-gt-BYTES-clause-right
unfolding ReadRight
returns-then-message-gt-BYTES-clause-right c = λ root k h. c.if-message-gt-BYTES.true

pub read_root-read-requires : goal.read_root-read-requires
read_root-read-requires c =
    let i = common_in c.args.message.now declaration 0 _ (omega arith) c.agrees-n.ensures in (
      c.if-message-gt-BYTES.false,
      (elim c.if-n-eq38.branch [ then-n-eq38 w ↦ rw w.from-is (omega (arith, w.if-n-eq38.true, i)) | else-n-eq38 w ↦ rw w.from-is (omega arith) ], c.requires),
    )

pub returns-clause-right : goal.returns-clause-right
returns-clause-right c =
    let s = c.args.message.now in
    let r = c.read_root-read in
    let d = c.if-n-eq38.from in
    let behind : (root : Elem) → farther d.1 (shift d.0 (lead root d.0 (drop d.0 s))) ≡ read declaration root s =
    λ root. elim c.if-n-eq38.branch [
      | then-n-eq38 w ↦ rw w.from-is (with_declaration root s (sym c.agrees-n.ensures ∙ w.if-n-eq38.true))
      | else-n-eq38 w ↦
          let i = common_in s declaration 0 _ (omega arith) c.agrees-n.ensures in
          let l : c.agrees-n.result < 38 = omega (arith, w.if-n-eq38.false, i) in
          rw w.from-is (without-declaration root s _ c.agrees-n.ensures l)
    ]
    in
    λ root k h. read_is root s _ d.1 _ r.result c.map_err.result r.new.heard r.new.slips r.new.rows c.if-message-gt-BYTES.false k (behind root)
    (mapped r.result c.map_err.result _ (λ (p : ℕ). NotOfTheForm (max d.1 p)) (λ p m q. search rules) c.map_err.ensures.cases) (r.ensures.exact root h)
