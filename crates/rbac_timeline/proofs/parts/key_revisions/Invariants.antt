use Rattle.std.proofs.Common.{◌≡◌, map, take}
use Rattle.rbac_timeline.specs.Known.{key_revision}
use Rattle.rbac_timeline.proofs.parts.key_revisions.Given as goal

abbrev pub invariant-loop-version : goal.invariant-loop-version
invariant-loop-version l = l.revisions.items ≡ map key_revision (take l.version-index l.versions)
