use Rattle.std.proofs.Common.{◌≤◌}
use Rattle.span_index.specs.Meeting.{NoneMeets}
use Rattle.span_index.proofs.SpanIndex.last_meeting.Given as goal

-- none of those that were looked at meets the range
abbrev pub invariant-spans : goal.invariant-spans
invariant-spans l = (l.rest ≤ l.fn.count) × NoneMeets l.self l.rest l.fn.count l.fn.low l.fn.high

abbrev pub decreases-spans : goal.decreases-spans
decreases-spans l = l.rest
