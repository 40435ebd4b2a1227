-- Spans of places that meet a range.
use Rattle.std.specs.Prelude.{◌<◌, ◌≤◌, ℕ, List, Option, Some, None, slice_index_or}
use Rattle.span_index.specs.declared.Span.{Span}

-- a place of the range is in the span
abbrev pub Meets : ℕ → ℕ → Span → Type 0
Meets low high span = (span.first ≤ high) × (low ≤ span.last)

-- no span behind an index, among the first ones, meets the range
abbrev pub NoneMeets : List Span → ℕ → ℕ → ℕ → ℕ → Type 0
NoneMeets spans from count low high = (k : ℕ) (d : Span) → from ≤ k → k < count → Meets low high (slice_index_or spans k d) → ⊥

-- the last of the first `count` spans that meets the range
pub record IsLastOf (spans : List Span) (count low high index : ℕ) : Type 0 where
  pub within : index < count
  pub here : (d : Span) → Meets low high (slice_index_or spans index d)
  pub behind : (k : ℕ) (d : Span) → index < k → k < count → Meets low high (slice_index_or spans k d) → ⊥

abbrev pub IsLastMeeting : List Span → ℕ → ℕ → ℕ → Option ℕ → Type 0
IsLastMeeting spans count low high None = NoneMeets spans 0 count low high
IsLastMeeting spans count low high (Some index) = IsLastOf spans count low high index
