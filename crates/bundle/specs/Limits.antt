-- THE LIMITS of a day list, which are the profile's, as bundling asks for them. Not to be believed: no promise to a caller speaks of them.
--   InLimits n c   n collections at the ceiling c are within them, and the ceiling is at least 1
use Rattle.std.specs.Prelude.{ℕ, ◌≤◌}
use Rattle.profile.specs.Limits.{most_collections, most_ceiling}

pub record InLimits (n c : ℕ) : Type 0 where
  pub collections : n ≤ most_collections
  pub least : 1 ≤ c
  pub most : c ≤ most_ceiling
