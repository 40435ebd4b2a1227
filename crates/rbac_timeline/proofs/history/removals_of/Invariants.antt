use Rattle.std.proofs.Common.{take}
use Rattle.rbac_timeline.specs.Kept.{AreGaps}
use Rattle.rbac_timeline.proofs.history.removals_of.Given as goal

-- the removals so far are kept
abbrev pub invariant-loop-end : goal.invariant-loop-end
invariant-loop-end l = AreGaps l.removals (take l.end-index l.ends)
