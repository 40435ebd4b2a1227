use Rattle.std.proofs.Common.{subst}
use Rattle.rbac_timeline.specs.Known.{Known}
use Rattle.rbac_timeline.specs.Reigning.{AreReigning, AsUser}
use Rattle.rbac_timeline.proofs.Ruling.{AreReignsOf-found}
use Rattle.rbac_timeline.proofs.timeline.Timeline.user_reigns.Goals as goal

pub returns : goal.returns
returns c =
    let are = subst (λ (k : Known). AreReigning c.self.inside.reigns k.versions k.ends) c.self.view_is c.self.invariant.reigning in
    AreReignsOf-found c.self.inside.reigns c.args.self.now AsUser c.args.name.now _ c.of_user.ensures are
