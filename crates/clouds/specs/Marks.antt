-- Spans of one cover, in order.
use Rattle.std.specs.Prelude.{◌≡◌, ◌<◌, ◌≤◌, ℕ, List, length, map, slice_index_or}
use Rattle.std.specs.List.Sorted.{IsNonDecreasingBy}
use Rattle.base_types.specs.declared.kubernetes.key.Cover.{Cover}
use Rattle.clouds.specs.declared.mark.Mark.{Mark}
use Rattle.clouds.specs.declared.span.OpaqueSpan.{OpaqueSpan}

-- the marks come by their lows, and each has the greatest high up to it
pub record AreMarks (marks : List Mark) : Type 0 where
  pub rising : IsNonDecreasingBy (λ mark. mark.low) marks
  pub reached : (k : ℕ) (d : Mark) → k < length marks → (j : ℕ) × (j ≤ k) × ((slice_index_or marks j d).high ≡ (slice_index_or marks k d).reach)
  pub bound : (j k : ℕ) (d : Mark) → j ≤ k → k < length marks → (slice_index_or marks j d).high ≤ (slice_index_or marks k d).reach

abbrev pub span_of : Cover → Mark → OpaqueSpan
span_of cover mark = record { cover = cover; low = mark.low; high = mark.high }

abbrev pub spans_of : Cover → List Mark → List OpaqueSpan
spans_of cover marks = map (span_of cover) marks

-- begins below the place and reaches the revision
abbrev pub Reaches : ℕ → ℕ → Mark → Type 0
Reaches place revision mark = (mark.low < place) × (revision ≤ mark.high)
