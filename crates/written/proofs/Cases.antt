-- WHAT IS WRITTEN for the list of the examples: the printed messages, byte for byte.
--   together, one_by_one   at the ceiling 2 both collections in one batch; at the ceiling 1 one in each of two batches
use mathlib.Core.Bool.{◌&&◌}
use lib.Dec.{T, eqb}
use lib.ListN.{length}
use Rattle.laws.specs.Bytes.{same}
use Rattle.put.specs.Numerals.{decimal_of}
use Rattle.tree.proofs.Example.{printed, apart}
use Rattle.daylist.proofs.Cases.{day_list}
use Rattle.written.specs.Written.{written}

together : T (same (written day_list 2) printed && eqb (length printed) 1743)
unfolding written decimal_of
together = tt

one_by_one : T (same (written day_list 1) apart && eqb (length apart) 2338)
unfolding written decimal_of
one_by_one = tt
