-- `bundle::label` meets its contract. Outer pass: the collections of the codes before `at` have their labels, and `next` is the next free number.
-- Inner search: the code of `at` is not among those that it went past.
use mathlib.Core.Path.{◌≡◌}
use lib.Dec.{eqb}
use lib.ListN.{take}
use Rattle.laws.specs.Lists.{count}
use Rattle.bundle.proofs.Loops.{Labelled}
use Rattle.bundle.proofs.label.Given as goal

abbrev pub invariant-loop-earlier : goal.invariant-loop-earlier
invariant-loop-earlier l = count (eqb l.code) (take l.earlier-index l.earlier-items) ≡ 0

abbrev pub invariant-outer : goal.invariant-outer
invariant-outer l = Labelled l.ceiling l.codes l.labels l.at l.next
