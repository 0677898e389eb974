-- `marks::all_letters` meets its contract. The invariant: every byte of the text is a letter where `good` holds and every byte of what is left is.
use mathlib.Core.Bool.{◌&&◌}
use mathlib.Core.Path.{◌≡◌}
use lib.ListN.{drop}
use Rattle.laws.specs.Bytes.{all}
use Rattle.marks.specs.Marks.{letter}
use Rattle.marks.proofs.all_letters.Given as goal

abbrev pub invariant-loop-c : goal.invariant-loop-c
invariant-loop-c l = all letter l.text ≡ l.good && all letter (drop l.c-index l.text)
