-- Each span ends a block of spans, whose places are known together.
use Rattle.std.specs.Prelude.{◌<◌, ◌≤◌, ℕ, List, length, slice_index_or}
use Rattle.span_index.specs.declared.Entry.{Entry}
use Rattle.span_index.specs.declared.Span.{Span}

-- a span has no other places
pub record IsWithin (span hull : Span) : Type 0 where
  pub from : hull.first ≤ span.first
  pub upto : span.last ≤ hull.last

-- the spans from an index up to another are within it
abbrev pub AreWithin : List Entry → ℕ → ℕ → Span → Type 0
AreWithin entries from end hull = (k : ℕ) (d : Entry) → from ≤ k → k < end → IsWithin (slice_index_or entries k d).span hull

-- an entry put behind these
pub record BeginsBlock (entries : List Entry) (entry : Entry) : Type 0 where
  pub from : entry.from ≤ length entries
  pub own : IsWithin entry.span entry.hull
  pub others : AreWithin entries entry.from (length entries) entry.hull

pub record IsBlock (entries : List Entry) (index : ℕ) (entry : Entry) : Type 0 where
  pub from : entry.from ≤ index
  pub own : IsWithin entry.span entry.hull
  pub others : AreWithin entries entry.from index entry.hull

abbrev pub AreBlocks : List Entry → Type 0
AreBlocks entries = (index : ℕ) (d : Entry) → index < length entries → IsBlock entries index (slice_index_or entries index d)
