use Rattle.std.proofs.Common.{◌≡◌, ◌∙◌, ◌↔◌, ap, subst, true}
use Rattle.clouds.specs.Clouds.{IsClouded}
use Rattle.rbac_timeline.specs.Known.{writes_of}
use Rattle.rbac_timeline.proofs.timeline.Timeline.is_clouded.Goals as goal

pub returns : goal.returns
returns c =
    let clouds : c.self.inside.clouds ≡ writes_of c.args.self.now = c.self.invariant.clouds_of ∙ ap writes_of c.self.view_is in
    subst (λ w. (c.clouded.result ≡ true) ↔ IsClouded w c.args.key.now c.args.place) clouds c.clouded.ensures
