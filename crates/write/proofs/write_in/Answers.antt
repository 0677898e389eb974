use Rattle.write.proofs.Answers.{answered-many, answered-good}
use Rattle.write.specs.Write.{answered}
use Rattle.write.proofs.Readies.{batches-ready, written_is, written-short}
use Rattle.collections.proofs.Batches.{need_by_number}
use lib.ListN.{length}
use mathlib.Core.Path.{◌≡◌, ◌∙◌}
use native.Mathlib.Omega.{arith}
use borrow.Author.Rules.{rules}
use Rattle.write.proofs.write_in.Goals as goal

pub returns-then-count-gt-BATCHES : goal.returns-then-count-gt-BATCHES
returns-then-count-gt-BATCHES c =
    let x = c.args in
    let many = answered-many x.list.now x.ceiling x.out.now (length x.labels.now) c.requires.ceiling_value c.label-count.result
    (c.label-count.ensures.value ∙ need_by_number x.list.now x.ceiling (length x.labels.now) c.requires.ceiling_value) (omega arith)
    in
    record { result_value = many.0; out_after = many.1 }

pub invariant_of-batches : goal.invariant_of-batches
invariant_of-batches c =
    let x = c.args in
    let l = c.label-count in
    let v : length l.new.labels ≡ length x.labels.now = search rules in
    record { ready = batches-ready x.list.now x.ceiling (length x.labels.now) c.requires.ceiling_value l.new.table l.new.labels l.ensures.table_after v l.ensures.labels_after l.result l.ensures.value (omega arith) }

pub write_labelled-requires : goal.write_labelled-requires
write_labelled-requires c =
    let x = c.args in
    let l = c.label-count in
    let v : length l.new.labels ≡ length x.labels.now = search rules in
    written-short x.list.now x.ceiling (length x.labels.now) c.requires.ceiling_value l.new.table l.new.labels l.ensures.table_after v l.ensures.labels_after l.result l.ensures.value (omega arith)

pub returns : goal.returns
returns c =
    let x = c.args in
    let l = c.label-count in
    let w = c.write_labelled in
    let v : length l.new.labels ≡ length x.labels.now = search rules in
    let e = written_is x.list.now x.ceiling (length x.labels.now) c.requires.ceiling_value l.new.table l.new.labels l.ensures.table_after v l.ensures.labels_after l.result l.ensures.value in
    let n = need_by_number x.list.now x.ceiling (length x.labels.now) c.requires.ceiling_value in
    let good = answered-good x.list.now x.ceiling x.out.now (length x.labels.now) c.requires.ceiling_value _ (answered w.result) w.new.out e
    (omega (arith, l.ensures.value, n)) w.ensures.result_value w.ensures.out_after
    in
    record { result_value = good.0; out_after = good.1 }
