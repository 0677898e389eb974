use Rattle.collections.proofs.Lines.{numbers-length, starts-whole}
use Rattle.daylist.proofs.Goods.{good-list}
use lib.ListN.{length}
use mathlib.Core.Path.{◌∙◌, ap}
use native.Mathlib.Omega.{arith}
use Rattle.collections.proofs.label.Goals as goal

pub terms_numbers-requires-clause-table_value : goal.terms_numbers-requires-clause-table_value
terms_numbers-requires-clause-table_value c =
    let good = good-list c.args.list.now c.args.ceiling (length c.args.labels.now) c.requires.ceiling_value in
    c.line_starts.ensures ∙ starts-whole c.args.list.now c.args.table.now (omega (arith, good, c.requires.table_len))

pub label-requires-clause-in_limits : goal.label-requires-clause-in_limits
label-requires-clause-in_limits c =
    let n = ap length c.terms_numbers.ensures in
    let good = good-list c.args.list.now c.args.ceiling (length c.args.labels.now) c.requires.ceiling_value in
    record { collections = omega (arith, n, numbers-length c.args.list.now, good); least = good.least; most = good.most }

pub returns-clause-table_after : goal.returns-clause-table_after
returns-clause-table_after c =
    let good = good-list c.args.list.now c.args.ceiling (length c.args.labels.now) c.requires.ceiling_value in
    c.line_starts.ensures ∙ starts-whole c.args.list.now c.args.table.now (omega (arith, good, c.requires.table_len))

pub label-requires-clause-labels_len : goal.label-requires-clause-labels_len
label-requires-clause-labels_len c =
    let n = ap length c.terms_numbers.ensures in
    let good = good-list c.args.list.now c.args.ceiling (length c.args.labels.now) c.requires.ceiling_value in
    omega (arith, n, numbers-length c.args.list.now, good)
