-- The moments that a log and a setup may have.
use Rattle.std.specs.Prelude.{◌^◌, ℤ, pos, neg_ℤ, ◌≤ℤ◌}

-- in nanoseconds since 1970, some forty million times the age of the universe to both sides
pub record IsMoment (instant : ℤ) : Type 0 where
  pub low : neg_ℤ (pos (2 ^ 100)) ≤ℤ instant
  pub high : instant ≤ℤ pos (2 ^ 100)
