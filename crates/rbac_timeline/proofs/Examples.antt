-- The example of the tests is sound.
use Rattle.std.proofs.Common.{◌≡◌, List, map, refl, ◌∙◌, ap}
use Rattle.clouds.specs.declared.span.KeyRevision.{KeyRevision}
use Rattle.rbac_timeline.specs.declared.version.RbacEnd.{RbacEnd}
use Rattle.rbac_timeline.specs.declared.version.RbacVersion.{RbacVersion}
use Rattle.rbac_timeline.specs.Examples.{example_ends, example_revisions}
use Rattle.rbac_timeline.specs.Known.{key_revision}
use Rattle.rbac_timeline.specs.Sound.{AreSound}
use Rattle.rbac_timeline.proofs.Soundness.{are_sound, sound_by_test}

pub sound_example : (versions : List RbacVersion) (ends : List RbacEnd) → map key_revision versions ≡ example_revisions → ends ≡ example_ends → AreSound versions ends
sound_example versions ends is_versions is_ends =
    sound_by_test versions ends (ap (λ (r : List KeyRevision). are_sound r ends) is_versions ∙ ap (are_sound example_revisions) is_ends ∙ refl)
