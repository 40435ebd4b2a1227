use Rattle.std.proofs.Common.{take}
use Rattle.write_groups.specs.Spanned.{AreSpansOf}
use Rattle.write_groups.proofs.spans.spans_with.Given as goal

abbrev pub invariant-loop-group : goal.invariant-loop-group
invariant-loop-group l = AreSpansOf l.events l.hidden (take l.group-index l.groups) l.spans.items
