use Rattle.std.proofs.Common.{List}
use Rattle.rbac_timeline.specs.declared.version.RbacEnd.{RbacEnd}
use Rattle.rbac_timeline.specs.Kept.{AreGaps}
use Rattle.rbac_timeline.proofs.Ending.{AreBegunTo}
use Rattle.rbac_timeline.proofs.begun.begun_of.Given as goal

-- the versions so far
abbrev pub invariant-loop-index : goal.invariant-loop-index
invariant-loop-index l = (ends : List RbacEnd) → AreGaps l.removals ends → AreBegunTo l.versions ends l.index l.begun.items
