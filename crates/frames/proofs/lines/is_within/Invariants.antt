-- `frames::lines::is_within` meets its contract. The invariant: no byte is LF where `within` holds and none from the index on is one.
use mathlib.Core.Bool.{◌&&◌}
use mathlib.Core.Path.{◌≡◌}
use lib.ListN.{drop}
use Rattle.laws.specs.Bytes.{all}
use Rattle.frames.specs.Lines.{not_end}
use Rattle.frames.proofs.lines.is_within.Given as goal

abbrev pub invariant-loop-c : goal.invariant-loop-c
invariant-loop-c l = all not_end l.text ≡ l.within && all not_end (drop l.c-index l.text)
