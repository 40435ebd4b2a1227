use Rattle.rbac_timeline.proofs.Examples.{sound_example}
use Rattle.worked_rules.proofs.timelines.example.Goals as goal

pub build-timeline-requires : goal.build-timeline-requires
build-timeline-requires g c = sound_example c.versions-versions.result c.ends-ends.result c.versions-versions.ensures c.ends-ends.ensures
