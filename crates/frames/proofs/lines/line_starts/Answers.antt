use Rattle.frames.proofs.Tables.{fill-go, fill_full, fill_none}
use Rattle.frames.proofs.lines.line_starts.Goals.{then-at-list, else-at-list, After-line_length-at}
use Rattle.std.proofs.lemmas.List.{set-get_or}
use Rattle.frames.proofs.Cuts.{line-within, line-inside, starts-go, starts-last, starts-end}
use Rattle.frames.specs.Lines.{not_end, lines, starts_from, starts}
use Rattle.laws.proofs.Loops.{drop-part}
use Rattle.laws.specs.Put.{put_at}
use Rattle.laws.specs.Bytes.{span}
use lib.ListN.{length, take, drop, set, length-set}
use mathlib.Core.List.{List, ◌∷◌}
use mathlib.Core.Path.{◌≡◌, sym, ◌∙◌, ap}
use native.Mathlib.Omega.{arith}
use Prim.Native.Nat.{ℕ, ◌-◌, ◌+◌, ◌<◌}
use Rattle.frames.proofs.lines.line_starts.Goals as goal
use Rattle.laws.specs.Bytes.{Bytes}

-- the next LF is before the end, where the line is ended
inside : (s : Bytes) (at n : ℕ) → span not_end (drop at s) ≡ n → at < length s → (at + n ≡ length s → ⊥) → at + n < length s
inside s at n e h d = line-inside _ _ (line-within s at n e h) d

-- what is read is all that stands from `at` on
read : (c : After-line_length-at) → span not_end (drop c.loop-start.at c.args.list.now) ≡ c.line_length-at.result
read c = sym (c.line_length-at.ensures ∙ ap (span not_end) (drop-part c.loop-start.at c.args.list.now))

pub returns-then-list-at : goal.returns-then-list-at
returns-then-list-at c =
    let l = c.loop-start in
    let x = c.args in
    rw (set-get_or l.start-items l.start-index 0) (sym (l.invariant.1
    ∙ ap (λ (t : List ℕ). put_at l.start-items l.start-index (take (length x.table.now - l.start-index) t)) (starts-end x.list.now l.at c.if-list-at.true)
    ∙ fill_none l.start-items l.start-index (length x.table.now)))

pub overflow_add-at : goal.overflow_add-at
overflow_add-at c = omega (arith, line-within c.args.list.now c.loop-start.at c.line_length-at.result (read (goal.at.overflow_add-at c).After-line_length-at) c.if-list-at.false)

pub loop-start-preserved : goal.loop-start-preserved
loop-start-preserved c =
    let l = c.loop-start in
    let s = c.args.list.now in
    let n = length c.args.table.now in
    let r = read (goal.at.loop-start-preserved c).After-line_length-at in
    let e = l.at + c.line_length-at.result in
    let h : l.start-index < length l.start-items = omega arith in
    let go : (rest : List ℕ) → starts_from l.at (lines (drop l.at s)) ≡ l.at ∷ rest
    → put_at c.args.table.now 0 (take n (starts s)) ≡ put_at (set l.start-items l.start-index l.at) (l.start-index + 1) (take (n - (l.start-index + 1)) rest) =
    λ rest q. l.invariant.1 ∙ ap (λ (t : List ℕ). put_at l.start-items l.start-index (take (n - l.start-index) t)) q ∙ fill-go l.start-items l.start-index n l.at rest h (omega (arith, l.invariant.0)) in (
      simp length-set l.invariant.0,
      elim c.if-at-list.branch [
        | then-at-list w ↦ rw w.at-is (go (starts_from (e + 1) (lines (drop (e + 1) s))) (starts-go s l.at c.line_length-at.result r w.if-at-list.true))
        | else-at-list w ↦ rw w.at-is (go (starts_from e (lines (drop e s))) (rw (starts-end s e w.if-at-list.false) (starts-last s l.at c.line_length-at.result r c.if-list-at.false (omega (arith, w.if-at-list.false, line-within s l.at c.line_length-at.result r c.if-list-at.false)))))
      ],
    )

pub returns : goal.returns
returns c =
    let l = c.loop-start in
    sym (l.invariant.1 ∙ fill_full l.start-items l.start-index (length c.args.table.now) (starts_from l.at (lines (drop l.at c.args.list.now))) (omega (arith, l.invariant.0)))
