-- The latest first moment of all things up to a number, for each number.
use Rattle.std.specs.Prelude.{◌≡◌, ℕ, ◌+◌, ◌<◌, ◌≤◌, ◌≤ℤ◌, List, length, map, take, slice_index_or, All, Any}
use Rattle.std.specs.List.Sorted.{IsPermutation}
use Rattle.base_types.specs.declared.kubernetes.revision.Moment.{Moment}
use Rattle.strict_order.specs.declared.latest.LatestMark.{LatestMark}
use Rattle.strict_order.specs.declared.thing.Thing.{Thing}

-- the mark of one thing
abbrev pub mark_of : Thing → LatestMark
mark_of thing = record { number = thing.greatest; lo = thing.lo }

-- the moment is one of the marks, and none is later
pub record IsLatestOf (marks : List LatestMark) (moment : Moment) : Type 0 where
  pub among : Any (λ mark. mark.lo ≡ moment) marks
  pub bound : All (λ mark. mark.lo.0 ≤ℤ moment.0) marks

-- each mark keeps its number, and has the latest moment of those up to it
pub record IsLatestSoFar (order marks : List LatestMark) : Type 0 where
  pub long : length marks ≡ length order
  pub numbers : (k : ℕ) (d : LatestMark) → k < length order → (slice_index_or marks k d).number ≡ (slice_index_or order k d).number
  pub moments : (k : ℕ) (d : LatestMark) → k < length order → IsLatestOf (take (k + 1) order) (slice_index_or marks k d).lo

-- the marks of the things, by number
pub record IsByNumber (things : List Thing) (order : List LatestMark) : Type 0 where
  pub same : IsPermutation (map mark_of things) order
  pub rising : (k : ℕ) (d : LatestMark) → k + 1 < length order → (slice_index_or order k d).number ≤ (slice_index_or order (k + 1) d).number

-- the marks by number, each with the latest moment of those up to it
pub record IsLatest (things : List Thing) (marks : List LatestMark) : Type 0 where
  pub order : List LatestMark
  pub sorted : IsByNumber things order
  pub latest : IsLatestSoFar order marks
