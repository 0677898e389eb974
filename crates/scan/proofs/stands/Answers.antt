use Prim.Native.Nat.{ℕ, ◌+◌, ◌-◌, ◌<◌, ◌≤◌}
use native.Mathlib.Nat.{add-zero, zero-add}
use native.Mathlib.Omega.{arith}
use mathlib.Core.Path.{◌≡◌, sym, ◌∙◌}
use lib.ListN.{length, get_or, take, drop}
use borrow.Author.Tests.{eqb-true}
use Rattle.laws.specs.Bytes.{Bytes}
use Rattle.tree.specs.Form.{common}
use Rattle.scan.specs.Words.{little}
use Rattle.scan.proofs.Words.{Alike, alike-none, alike_on, alike_whole}
use Rattle.scan.proofs.stands.Goals as goal
use Rattle.scan.proofs.stands.Goals.{else-loop-i-test, then-loop-i-test+else-word_at+else-m-i-gt8}

-- j bytes are the same, and so are k more, by their number; these are n
more : (s t : Bytes) → ((i : ℕ) → get_or s i 0 < 256) → ((i : ℕ) → get_or t i 0 < 256) → (at m j k n : ℕ) → j ≤ m → n ≡ j + k → at + n ≤ length s → n ≤ length t
    → little (take k (drop (at + j) s)) ≡ little (take k (drop j t)) → Alike s at t 0 m → Alike s at t 0 n
more s t p q at m j k n l d a b e f = alike_on s t p q at 0 m j k n l d a (omega arith) (simp zero-add e) f

pub returns-then-half_at : goal.returns-then-half_at
returns-then-half_at c =
    λ e.
    let a = c.args in
    let s = a.s.now in
    let t = a.word.now in
    let p : (i : ℕ) → get_or s i 0 < 256 = λ i. omega (arith, c.type_inv.s i) in
    let q : (i : ℕ) → get_or t i 0 < 256 = λ i. omega (arith, c.type_inv.word i) in
    let f = more s t p q a.at 0 0 4 4 (omega arith) (omega arith) (omega arith) (omega arith) (simp add-zero (sym c.half_at.ensures ∙ c.if-half_at.true ∙ c.half_at-then-n-lt8.ensures)) (alike-none s t a.at 0) in
    let g = more s t p q a.at 4 (length t - 4) 4 (length t) (omega arith) (omega arith) (omega arith) (omega arith) (sym c.half_at-then-half_at.ensures ∙ eqb-true _ _ e ∙ c.half_at-then-half_at-2.ensures) f in
    (omega arith, alike_whole s t a.at (omega arith) g)

pub loop-i-init : goal.loop-i-init
loop-i-init c = alike-none c.args.s.now c.args.word.now c.args.at 0

pub loop-i-preserved : goal.loop-i-preserved
loop-i-preserved c =
    let a = c.args in
    let i = c.loop-i.i in
    more a.s.now a.word.now (λ j. omega (arith, c.type_inv.s j)) (λ j. omega (arith, c.type_inv.word j)) a.at i i 8 (i + 8) (omega arith) (omega arith) (omega arith) (omega arith) (sym c.word_at.ensures ∙ c.if-word_at.false ∙ c.word_at-in-loop-i.ensures) c.loop-i.invariant

pub returns : goal.returns
returns c =
    λ e.
    let a = c.args in
    let s = a.s.now in
    let t = a.word.now in
    let i = c.loop-i.i in
    let p : (j : ℕ) → get_or s j 0 < 256 = λ j. omega (arith, c.type_inv.s j) in
    let q : (j : ℕ) → get_or t j 0 < 256 = λ j. omega (arith, c.type_inv.word j) in
    let last : (m : ℕ) → length t - 8 ≤ m → Alike s a.at t 0 m → (a.at + length t ≤ length s) × (length t ≡ common (drop a.at s) t) =
    λ m l f. (omega arith, alike_whole s t a.at (omega arith) (more s t p q a.at m (length t - 8) 8 (length t) l (omega arith) (omega arith) (omega arith) (sym c.word_at-2.ensures ∙ eqb-true _ _ e ∙ c.word_at-3.ensures) f))
    in
    elim c.loop-i-test.branch [
      | else-loop-i-test w ↦ last i (omega arith) c.loop-i.invariant
      | then-loop-i-test+else-word_at+else-m-i-gt8 w ↦
          last (i + 8) (omega arith) (more s t p q a.at i i 8 (i + 8) (omega arith) (omega arith) (omega arith) (omega arith) (sym w.word_at.ensures ∙ w.if-word_at.false ∙ w.word_at-in-loop-i.ensures) c.loop-i.invariant)
    ]
