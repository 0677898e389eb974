use Rattle.daylist.proofs.Judging.{judged_from, texts-whole, texts-out, texts-none, texts-step}
use Rattle.frames.proofs.Digits.{unhex-length}
use Rattle.daylist.specs.Values.{else, bad}
use Rattle.frames.specs.Fields.{judged_field}
use Rattle.frames.specs.Hex.{unhex}
use Rattle.frames.specs.declared.Field.{Field}
use Rattle.frames.specs.declared.Field.TheVariants.{Needed}
use Rattle.text.specs.declared.Rule.TheVariants.{Identifier}
use Rattle.text.specs.Rules.{Judged}
use Rattle.laws.specs.Bytes.{Bytes}
use lib.ListN.{length, drop, take, get_or}
use mathlib.Core.List.{List}
use mathlib.Core.Path.{◌≡◌, sym, ◌∙◌, ap}
use native.Mathlib.Omega.{arith}
use Prim.Native.Nat.{ℕ, ◌-◌, ◌+◌, ◌/◌, ◌<◌, min}
use Rattle.daylist.proofs.values.judge_texts.Goals as goal

-- this text is judged k, and the rest follow
text-is : (b : ℕ) (fields : List Field) (line : Bytes) (i at byte size : ℕ) (k : Judged)
    → i < length fields → at < length line / 2 → byte ≡ get_or (unhex line) at 0 → size ≡ min byte (length line / 2 - (at + 1))
    → judged_field (get_or fields i (Needed Identifier)) (take size (drop (at + 1) (unhex line))) ≡ k
    → judged_from b fields i (unhex line) at ≡ else (b + (i + 1)) k (judged_from b fields (i + 1) (unhex line) (at + 1 + size))
text-is b fields line i at byte size k h l e m q =
    let n = unhex-length line in
    texts-step b fields i (unhex line) at (Needed Identifier) size h (rw n l) (rw (n, ← e) m)
    ∙ ap (λ (x : Judged). else (b + (i + 1)) x (judged_from b fields (i + 1) (unhex line) (at + 1 + size))) q

pub loop-i-init : goal.loop-i-init
loop-i-init c = texts-whole c.args.before c.args.fields.now 0 (unhex c.args.line.now) c.args.from

pub returns-then-end-at : goal.returns-then-end-at
returns-then-end-at c =
    let l = c.loop-i in
    sym (l.invariant ∙ texts-out c.args.before c.args.fields.now l.i (unhex c.args.line.now) l.at (omega (arith, unhex-length c.args.line.now)))

pub judge_part-requires : goal.judge_part-requires
judge_part-requires c = omega (arith, c.min-size.ensures, unhex-length c.args.line.now)

pub returns-in-Err : goal.returns-in-Err
returns-in-Err c =
    let l = c.loop-i in
    sym (l.invariant ∙ text-is c.args.before c.args.fields.now c.args.line.now l.i l.at _ _ _ (omega arith) c.if-end-at.false (omega arith) c.min-size.ensures (sym c.judge_part.ensures ∙ c.in-Err.is) ∙ ap (bad c.in-Err.flaw) (omega arith))

pub loop-i-preserved : goal.loop-i-preserved
loop-i-preserved c =
    let l = c.loop-i in
    l.invariant ∙ text-is c.args.before c.args.fields.now c.args.line.now l.i l.at _ _ _ (omega arith) c.if-end-at.false (omega arith) c.min-size.ensures (sym c.judge_part.ensures ∙ c.in_default.is)

pub returns : goal.returns
returns c = let l = c.loop-i in sym (l.invariant ∙ texts-none c.args.before c.args.fields.now l.i (unhex c.args.line.now) l.at (omega arith))
