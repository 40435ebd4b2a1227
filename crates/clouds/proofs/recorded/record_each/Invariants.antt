use Rattle.std.proofs.Common.{◌≡◌, [], map, take}
use Rattle.base_types.specs.declared.kubernetes.key.ObjectKey.{ObjectKey}
use Rattle.clouds.specs.Filed.{AreRecorded}
use Rattle.clouds.specs.Recorded.{firsts_at, revisions_at}
use Rattle.clouds.proofs.recorded.record_each.Given as goal

-- the revisions so far are kept
abbrev pub invariant-loop-write : goal.invariant-loop-write
invariant-loop-write l = AreRecorded (revisions_at l.recorded) (map (λ write. write.now) (take l.write-index l.writes)) × ((key : ObjectKey) → firsts_at l.recorded key ≡ [])
