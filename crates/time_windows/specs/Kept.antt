-- How spans are kept: their ends and their starts, each in order of time.
use Rattle.std.specs.Prelude.{ℕ, ◌<◌, List, [], ◌∷◌, All}
use Rattle.time_windows.specs.declared.mark.SpanMark.{SpanMark}
use Rattle.time_windows.specs.declared.span.Span.{Span}
use Rattle.time_windows.specs.Marks.{IsByHi, IsByLo}

-- the spans of these ends and starts
abbrev pub spans_of : List SpanMark → List SpanMark → List Span
spans_of [] starts = []
spans_of (end ∷ ends) [] = []
spans_of (end ∷ ends) (start ∷ starts) = record { revision = end.revision; lo = start.at; hi = end.at } ∷ spans_of ends starts

-- the spans lie behind the first revision, and both lists of marks are theirs
pub record IsKept (first : ℕ) (spans : List Span) (by_hi by_lo : List SpanMark) : Type 0 where
  pub behind : All (λ span. first < span.revision) spans
  pub ends : IsByHi spans by_hi
  pub starts : IsByLo spans by_lo
