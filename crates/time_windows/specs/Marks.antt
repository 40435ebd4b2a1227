-- Moments with revisions in order of time, with the greatest and the least revision so far.
use Rattle.std.specs.Prelude.{◌≡◌, ℕ, ◌+◌, ◌<◌, ◌≤◌, ◌<ℤ◌, ◌⊎◌, List, length, map, take, drop, slice_index_or, All, Any}
use Rattle.std.specs.List.Sorted.{IsPermutation}
use Rattle.time_windows.specs.declared.mark.SpanMark.{SpanMark}
use Rattle.time_windows.specs.declared.span.Span.{Span}

abbrev pub end_of : Span → SpanMark
end_of span = record { at = span.hi; revision = span.revision }

abbrev pub start_of : Span → SpanMark
start_of span = record { at = span.lo; revision = span.revision }

-- by moment, and at one moment by revision
abbrev pub Precedes : SpanMark → SpanMark → Type 0
Precedes a b = (a.at.0 <ℤ b.at.0) ⊎ ((a.at.0 ≡ b.at.0) × (a.revision ≤ b.revision))

-- the marks, in order
pub record IsInOrder (marks order : List SpanMark) : Type 0 where
  pub same : IsPermutation marks order
  pub each : (k : ℕ) (d : SpanMark) → k + 1 < length order → Precedes (slice_index_or order k d) (slice_index_or order (k + 1) d)

-- one of the marks' revisions, and none is greater
pub record IsGreatestOf (marks : List SpanMark) (revision : ℕ) : Type 0 where
  pub among : Any (λ mark. mark.revision ≡ revision) marks
  pub bound : All (λ mark. mark.revision ≤ revision) marks

-- one of the marks' revisions, and none is less
pub record IsLeastOf (marks : List SpanMark) (revision : ℕ) : Type 0 where
  pub among : Any (λ mark. mark.revision ≡ revision) marks
  pub bound : All (λ mark. revision ≤ mark.revision) marks

-- each mark keeps its moment, and has the greatest revision up to it
pub record IsGreatestSoFar (order marks : List SpanMark) : Type 0 where
  pub long : length marks ≡ length order
  pub moments : (k : ℕ) (d : SpanMark) → k < length order → (slice_index_or marks k d).at ≡ (slice_index_or order k d).at
  pub revisions : (k : ℕ) (d : SpanMark) → k < length order → IsGreatestOf (take (k + 1) order) (slice_index_or marks k d).revision

-- each mark keeps its moment, and has the least revision from it on
pub record IsLeastFromThere (order marks : List SpanMark) : Type 0 where
  pub long : length marks ≡ length order
  pub moments : (k : ℕ) (d : SpanMark) → k < length order → (slice_index_or marks k d).at ≡ (slice_index_or order k d).at
  pub revisions : (k : ℕ) (d : SpanMark) → k < length order → IsLeastOf (drop k order) (slice_index_or marks k d).revision

-- the marks in order, each with the greatest revision up to it
pub record IsRunningGreatest (marks running : List SpanMark) : Type 0 where
  pub order : List SpanMark
  pub sorted : IsInOrder marks order
  pub greatest : IsGreatestSoFar order running

-- the marks in order, each with the least revision from it on
pub record IsRunningLeast (marks running : List SpanMark) : Type 0 where
  pub order : List SpanMark
  pub sorted : IsInOrder marks order
  pub least : IsLeastFromThere order running

-- the spans' ends, each with the greatest revision up to it
abbrev pub IsByHi : List Span → List SpanMark → Type 0
IsByHi spans marks = IsRunningGreatest (map end_of spans) marks

-- the spans' starts, each with the least revision from it on
abbrev pub IsByLo : List Span → List SpanMark → Type 0
IsByLo spans marks = IsRunningLeast (map start_of spans) marks
