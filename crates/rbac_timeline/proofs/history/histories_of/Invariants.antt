use Rattle.rbac_timeline.specs.Kept.{AreStored}
use Rattle.rbac_timeline.proofs.history.histories_of.Given as goal

-- the versions so far are kept
abbrev pub invariant-loop-version : goal.invariant-loop-version
invariant-loop-version l = AreStored l.histories l.yielded
