use Rattle.frames.proofs.Walks.{some, behind, passed, framed-none, framed-kind, framed-lead, framed-start, holds-short, holds-over, holds-go, holds-end}
use Rattle.frames.proofs.Digits.{unhex-length}
use Rattle.frames.specs.Frames.{holds, framed}
use Rattle.frames.specs.Hex.{unhex}
use Rattle.laws.specs.Bytes.{Bytes}
use lib.ListN.{length, drop, get_or}
use mathlib.Core.Path.{◌≡◌, sym, ◌∙◌}
use Prim.Native.Nat.{◌≤◌, ◌+◌, ◌/◌}
use native.Mathlib.Omega.{arith}
use Rattle.frames.proofs.is_framed.Goals as goal
use Rattle.frames.proofs.is_framed.Goals.{then-end-eq0-via-then-end-eq0, then-end-eq0-via-else-end-eq0+then-byte_at-frame, then-end-eq0-via-else-end-eq0+else-byte_at-frame+then-end-frame}
use Rattle.frames.specs.declared.Frame.{Frame}
use Rattle.std.proofs.Common.{ℕ, ◌-◌}

-- the texts begin after the lead bytes
begins : (f : Frame) (line : Bytes) (b : ℕ) → (length line / 2 ≡ 0 → ⊥) → b ≡ get_or (unhex line) 0 0 → b ≡ f.kind → f.lead ≤ length line / 2 - 1
    → framed f (unhex line) ≡ holds f.texts (drop (1 + f.lead) (unhex line))
begins f line b n e k l = framed-start f (unhex line) (some _ _ (unhex-length line) n) (sym e ∙ k) (rw (unhex-length line) l)

pub returns-then-end-eq0 : goal.returns-then-end-eq0
returns-then-end-eq0 c =
    let f = c.args.frame in
    let s = c.args.line.now in
    elim c.then-end-eq0.branch [
      | then-end-eq0-via-then-end-eq0 w ↦ sym (framed-none f (unhex s) (unhex-length s ∙ w.if-end-eq0.true))
      | then-end-eq0-via-else-end-eq0+then-byte_at-frame w ↦ sym (framed-kind f (unhex s) (λ e. w.if-byte_at-frame.true (w.byte_at.ensures ∙ e)))
      | then-end-eq0-via-else-end-eq0+else-byte_at-frame+then-end-frame w ↦ sym (framed-lead f (unhex s) (rw (unhex-length s) w.if-end-frame.true))
    ]

pub loop-init : goal.loop-init
loop-init c = let e : c.args.frame.texts - 0 ≡ c.args.frame.texts = omega arith in (rw e, behind _ _ _ (unhex-length c.args.line.now) c.if-end-eq0.false c.if-end-frame.false)

pub returns-then-end-at : goal.returns-then-end-at
returns-then-end-at c =
    let l = c.loop in
    sym (begins c.args.frame c.args.line.now _ c.if-end-eq0.false c.byte_at.ensures c.if-byte_at-frame.false c.if-end-frame.false ∙ l.invariant.0 ∙ holds-short (c.args.frame.texts - l.counter) (unhex c.args.line.now) l.at (omega arith) (rw (unhex-length c.args.line.now) c.if-end-at.true))

pub returns-then-end-at-2 : goal.returns-then-end-at-2
returns-then-end-at-2 c =
    let l = c.loop in
    sym (begins c.args.frame c.args.line.now _ c.if-end-eq0.false c.byte_at.ensures c.if-byte_at-frame.false c.if-end-frame.false ∙ l.invariant.0 ∙ holds-over (c.args.frame.texts - l.counter) (unhex c.args.line.now) l.at (omega arith) (rw (unhex-length c.args.line.now) c.if-end-at.false) (omega (arith, unhex-length c.args.line.now)))

pub loop-preserved : goal.loop-preserved
loop-preserved c =
    let l = c.loop in
    let s = unhex c.args.line.now in
    let n = c.args.frame.texts in
    let b : get_or s l.at 0 ≡ c.from-size.result = omega arith in
    let e : n - (l.counter + 1) ≡ n - l.counter - 1 = omega arith in
    (rw e (l.invariant.0 ∙ rw b at (holds-go (n - l.counter) s l.at (omega arith) (rw (unhex-length c.args.line.now) c.if-end-at.false) (rw (unhex-length c.args.line.now, b) (omega arith)))), passed _ _ _ _ (unhex-length c.args.line.now) c.if-end-at.false c.if-end-at-2.false)

pub returns : goal.returns
returns c =
    let l = c.loop in
    let e = unhex-length c.args.line.now in
    sym (begins c.args.frame c.args.line.now _ c.if-end-eq0.false c.byte_at.ensures c.if-byte_at-frame.false c.if-end-frame.false ∙ l.invariant.0 ∙ (rw e at (holds-end (c.args.frame.texts - l.counter) (unhex c.args.line.now) l.at (omega arith) l.invariant.1)))
