use Rattle.std.proofs.Common.{take}
use Rattle.rbac_timeline.specs.Reigning.{AreReigns}
use Rattle.rbac_timeline.proofs.reign_index.ReignIndex.of_begun.Given as goal

-- those of the versions so far
abbrev pub invariant-loop-begun : goal.invariant-loop-begun
invariant-loop-begun l = AreReigns l.index (take l.begun-index l.versions)
