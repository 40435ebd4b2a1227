use Rattle.std.proofs.Common.{take}
use Rattle.rbac_timeline.specs.Unsure.{AreGathered, GivesNamed}
use Rattle.rbac_timeline.proofs.unsure.keys_of_spans.Given as goal

-- of the spans so far
abbrev pub invariant-loop-span : goal.invariant-loop-span
invariant-loop-span l = AreGathered GivesNamed (take l.span-index l.spans) l.keys.items
