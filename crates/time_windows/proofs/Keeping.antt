-- Spans from their ends and starts.
use Rattle.std.proofs.Common.{◌≡◌, List, [], ◌∷◌, map, refl, ap}
use Rattle.time_windows.specs.declared.span.Span.{Span}
use Rattle.time_windows.specs.Kept.{spans_of}
use Rattle.time_windows.specs.Marks.{end_of, start_of}

pub spans_of-map : (spans : List Span) → spans_of (map end_of spans) (map start_of spans) ≡ spans
spans_of-map [] = refl
spans_of-map (span ∷ spans) = ap (λ rest. span ∷ rest) (spans_of-map spans)
