-- The places of reigns.
use Rattle.std.specs.Prelude.{List, map}
use Rattle.span_index.specs.declared.Span.{Span}
use Rattle.rbac_timeline.specs.declared.reigns.Reign.{Reign}

abbrev pub span_of : Reign → Span
span_of reign = record { first = reign.first; last = reign.last }

abbrev pub spans_of : List Reign → List Span
spans_of reigns = map span_of reigns
