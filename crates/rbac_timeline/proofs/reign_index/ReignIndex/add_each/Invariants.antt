use Rattle.std.proofs.Common.{take}
use Rattle.rbac_timeline.specs.Reigning.{AddsReigns, reign_of}
use Rattle.rbac_timeline.proofs.reign_index.ReignIndex.add_each.Given as goal

-- the subjects so far have the reign
abbrev pub invariant-loop-subject : goal.invariant-loop-subject
invariant-loop-subject l = AddsReigns l.initial.self l.self (take l.subject-index l.subjects) (reign_of l.begun)
