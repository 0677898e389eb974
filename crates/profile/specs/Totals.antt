-- WHAT IS DECLARED, AND THE TALLY, as the code keeps them. Not to be believed: a message's totals are message/specs/Message, and `verdict-right` says that these are they.
--   count_differs d n, sum_differs d c   a declaration that is there, and differs; an absent one never does
--   fresh_tally                         nothing was read
--   with_transaction y c                the tally y with a transaction of c more in its open batch
--   closed y, begun y                  the tally y with its open batch closed, with one batch more
--   totals y                           what it hands back: its batches, and the transactions and cents of those that are closed
use Rattle.std.specs.Prelude.{suc, ◌+◌, Bool, false, not, eqb, Option, None, Some}
use Rattle.profile.specs.declared.NumberOfTransactions.{NumberOfTransactions}
use Rattle.profile.specs.declared.ControlSum.{ControlSum}
use Rattle.profile.specs.declared.DeclaredSum.{DeclaredSum}
use Rattle.profile.specs.declared.DeclaredSum.TheVariants.{Absent, Cents}
use Rattle.profile.specs.declared.Totals.{Totals}
use Rattle.profile.specs.declared.Tally.{Tally}

-- what a batch or the header declares of its count: nothing, or a number
abbrev pub DeclaredCount : Type 0
DeclaredCount = Option NumberOfTransactions

abbrev pub count_differs : DeclaredCount → NumberOfTransactions → Bool
count_differs None n = false
count_differs (Some d) n = not (eqb d.0 n.0)

abbrev pub sum_differs : DeclaredSum → ControlSum → Bool
sum_differs Absent c = false
sum_differs (Cents d) c = not (eqb d.0 c.0)

abbrev pub fresh_tally : Tally
fresh_tally = record { batches = 0; transactions = record { 0 = 0 }; cents = record { 0 = 0 }; count = record { 0 = 0 }; sum = record { 0 = 0 } }

abbrev pub with_transaction : Tally → ControlSum → Tally
with_transaction y c = record y { count = record { 0 = y.count.0 + 1 }; sum = record { 0 = y.sum.0 + c.0 } }

abbrev pub closed : Tally → Tally
closed y = record fresh_tally {
  batches = y.batches;
  transactions = record { 0 = y.transactions.0 + y.count.0 };
  cents = record { 0 = y.cents.0 + y.sum.0 };
}

abbrev pub begun : Tally → Tally
begun y = record y { batches = suc y.batches }

abbrev pub totals : Tally → Totals
totals y = record { batches = y.batches; transactions = y.transactions; cents = y.cents }
