use Rattle.clouds.specs.Clouds.{IsClouded}
use Rattle.rbac_timeline.proofs.Finding.{somewhere_from_first}
use Rattle.rbac_timeline.proofs.unsure.is_clouded_somewhere.Goals as goal

pub returns : goal.returns
returns c = rw c.is_some.ensures (somewhere_from_first (IsClouded c.args.clouds.now c.args.key.now) c.meets.result c.meets.ensures.some c.meets.ensures.none)
