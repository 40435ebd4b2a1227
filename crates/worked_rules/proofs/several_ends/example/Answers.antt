use Rattle.std.proofs.Common.{List, refl, ◌∙◌, ap}
use Rattle.clouds.specs.declared.span.KeyRevision.{KeyRevision}
use Rattle.rbac_timeline.proofs.Soundness.{are_sound, sound_by_test}
use Rattle.worked_rules.specs.SeveralEnds.{several_revisions}
use Rattle.worked_rules.proofs.several_ends.example.Goals as goal

pub build-timeline-requires : goal.build-timeline-requires
build-timeline-requires g c =
    sound_by_test c.versions.result c.ends.result
    (ap (λ (r : List KeyRevision). are_sound r c.ends.result) c.versions.ensures ∙ ap (are_sound several_revisions) c.ends.ensures ∙ refl)
