use Rattle.std.proofs.Common.{◌≡◌, ◌∙◌, map}
use Rattle.rbac_timeline.specs.Known.{key_revision}
use Rattle.rbac_timeline.proofs.Storing.{same_writes}
use Rattle.rbac_timeline.proofs.parts.clouds_of.Goals as goal

pub returns : goal.returns
returns c =
    let revisions : c.in_ok-clouds.clouds.revisions ≡ map key_revision c.args.versions.now = c.in_ok-clouds.ensures.revisions ∙ c.as_slice.ensures.value ∙ c.in_ok-revisions.ensures in
    same_writes c.in_ok-clouds.clouds _ _ c.in_ok-clouds.ensures.spans revisions
