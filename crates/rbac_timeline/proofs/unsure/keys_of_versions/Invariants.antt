use Rattle.std.proofs.Common.{take}
use Rattle.rbac_timeline.specs.Unsure.{AreGathered, GivesUnsure}
use Rattle.rbac_timeline.proofs.unsure.keys_of_versions.Given as goal

-- of the versions so far
abbrev pub invariant-loop-version : goal.invariant-loop-version
invariant-loop-version l = AreGathered (GivesUnsure l.fn.clouds) (take l.version-index l.versions) l.keys.items
