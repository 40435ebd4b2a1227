use Rattle.std.proofs.Common.{◌+◌, ◌<◌, ◌≤◌, All, AllPairs}
use Rattle.time_windows.specs.declared.span.Span.{Span}
use Rattle.worked_base.proofs.window_rows.spans_of.Given as goal

-- revisions rise from the start to the last one
abbrev pub invariant-loop-written : goal.invariant-loop-written
invariant-loop-written g l =
    AllPairs (λ (a : Span) b. a.revision < b.revision) l.spans.items × All (λ (span : Span). span.revision < l.last + 1) l.spans.items
    × All (λ (span : Span). l.fn.start < span.revision) l.spans.items × (l.fn.start ≤ l.last)
