use Rattle.collections.proofs.Lines.{numbers_fit, row-there, set-within, start-there, number_read}
use Rattle.collections.specs.Numbers.{numbers_of}
use Rattle.laws.proofs.Puts.{put_nil, put_all, put_step}
use Rattle.laws.specs.Put.{put_at}
use lib.ListN.{length, drop, set, length-set, drop_of_length-le}
use mathlib.Core.Path.{refl, sym, ◌∙◌, ap}
use native.Mathlib.Nat.{le_of_lt}
use native.Mathlib.Omega.{arith}
use Prim.Native.Nat.{ℕ, ◌+◌, ◌<◌}
use Rattle.collections.proofs.terms_numbers.Goals as goal

pub loop-i-init : goal.loop-i-init
loop-i-init c =
    let x = c.args in
    let p = c.requires in
    (refl, omega arith, put_all x.numbers.now (numbers_of x.list.now) (numbers_fit x.list.now x.table.now (length x.numbers.now) p.table_value p.numbers_len))

pub line_end-end-requires : goal.line_end-end-requires
line_end-end-requires c =
    let x = c.args in
    let p = c.requires in
    le_of_lt (start-there x.list.now x.table.now p.table_value c.loop-i.i (row-there _ _ _ _ c.loop-i-test.true refl p.numbers_len))

pub loop-i-preserved : goal.loop-i-preserved
loop-i-preserved c =
    let l = c.loop-i in
    let x = c.args in
    let p = c.requires in
    let h = c.loop-i-test.true in
    let k : l.i < length l.numbers = omega (arith, l.invariant.0) in
    let r = number_read x.list.now x.table.now p.table_value l.i (row-there _ _ _ _ h refl p.numbers_len) _ c.terms_number.result c.line_end-end.ensures.0 c.terms_number.ensures in
    let n : l.i < length (numbers_of x.list.now) = rw (← numbers_fit x.list.now x.table.now (length x.numbers.now) p.table_value p.numbers_len) h in (
      simp length-set l.invariant.0,
      set-within l.numbers l.i _ k,
      ap (λ (v : ℕ). put_at (set l.numbers l.i v) (l.i + 1) (drop (l.i + 1) (numbers_of x.list.now))) r
          ∙ put_step l.numbers (numbers_of x.list.now) l.i l.i n k
          ∙ l.invariant.2,
    )

pub returns : goal.returns
returns c =
    let l = c.loop-i in
    let x = c.args in
    let p = c.requires in
    let d = drop_of_length-le (numbers_of x.list.now) {i = l.i} (rw (← numbers_fit x.list.now x.table.now (length x.numbers.now) p.table_value p.numbers_len) c.loop-i-test.false) in
    sym (put_nil l.numbers l.i) ∙ ap (put_at l.numbers l.i) (sym d) ∙ l.invariant.2
