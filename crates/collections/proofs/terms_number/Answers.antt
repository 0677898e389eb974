use Rattle.std.proofs.Common.{ℕ, ◌≡◌}
use Rattle.laws.specs.Bytes.{Bytes}
use Rattle.text.specs.Rules.{number_told, date}
use Rattle.collections.proofs.Dates.{date-under}
use Rattle.collections.specs.Listed.{collection_of}
use Rattle.frames.specs.Hex.{unhex}
use Prim.Native.Nat.{◌<◌, ◌^◌}
use native.Mathlib.Omega.{arith}
use Rattle.collections.proofs.terms_number.Goals as goal

-- the day is small
under : (line : Bytes) (d : ℕ) → d ≡ number_told (date (collection_of (unhex line)).terms.date) → d < 10 ^ 8
under line d e = rw e (date-under (collection_of (unhex line)).terms.date)

pub overflow_mul-result : goal.overflow_mul-result
overflow_mul-result c = record { fits = omega (arith, under c.args.line.now _ c.day_number-day.ensures) }

pub overflow_add-result : goal.overflow_add-result
overflow_add-result c = record { fits = omega (arith, under c.args.line.now _ c.day_number-day.ensures) }

pub overflow_mul-result-2 : goal.overflow_mul-result-2
overflow_mul-result-2 c = record { fits = omega (arith, under c.args.line.now _ c.day_number-day.ensures) }

pub overflow_add-result-2 : goal.overflow_add-result-2
overflow_add-result-2 c = record { fits = omega (arith, under c.args.line.now _ c.day_number-day.ensures) }
