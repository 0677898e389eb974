-- THE LIMITS of document 01. To be believed; definitions only. That the code's named constants are these is `Profile::limits`.
--   limits       all of them, as the code has them
--   most_bytes    1,048,576     most_batches  64     most_transactions  2,000     most_cents  999999999.99 as cents
--   most_collections  1,000 in a day list           most_ceiling  500
use Rattle.std.specs.Prelude.{ℕ}
use Rattle.profile.specs.declared.Limits.{Limits}

abbrev pub most_bytes : ℕ
most_bytes = 1_048_576

abbrev pub most_batches : ℕ
most_batches = 64

abbrev pub most_transactions : ℕ
most_transactions = 2_000

abbrev pub most_cents : ℕ
most_cents = 99_999_999_999

abbrev pub most_collections : ℕ
most_collections = 1_000

abbrev pub most_ceiling : ℕ
most_ceiling = 500

abbrev pub limits : Limits
limits = record { bytes = most_bytes; batches = most_batches; transactions = most_transactions; cents = most_cents; collections = most_collections; ceiling = most_ceiling }
