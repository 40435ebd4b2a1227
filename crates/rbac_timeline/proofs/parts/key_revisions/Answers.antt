use Rattle.std.proofs.Common.{◌≡◌, sym}
use Rattle.base_types.proofs.KeyLemmas.{key_from_parts}
use Rattle.clouds.proofs.Keeping.{taken_more}
use Rattle.rbac_timeline.specs.Known.{key_revision}
use Rattle.rbac_timeline.proofs.parts.key_revisions.Goals as goal

pub loop-version-preserved : goal.loop-version-preserved
loop-version-preserved c =
    let parts = c.in_ok-clone.ensures.cases in
    let copy : c.in_ok-clone.field-0 ≡ c.version-item.result.key = key_from_parts _ _ parts.0 parts.1.0 parts.1.1.0 parts.1.1.1 in
    rw (c.in_ok-push.ensures.items, copy, c.loop-version.invariant)
    (sym (taken_more key_revision c.args.versions.now c.loop-version.version-index c.version-item.result c.loop-version-test.true c.version-item.is))
