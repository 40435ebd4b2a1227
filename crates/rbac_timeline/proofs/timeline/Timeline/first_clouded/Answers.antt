use Rattle.std.proofs.Common.{◌≡◌, ◌∙◌, ap, subst}
use Rattle.clouds.specs.Clouds.{IsClouded}
use Rattle.clouds.specs.FirstPlace.{IsFirstPlace}
use Rattle.rbac_timeline.specs.Known.{writes_of}
use Rattle.rbac_timeline.proofs.Pairing.{IsFirstPlace-found}
use Rattle.rbac_timeline.proofs.timeline.Timeline.first_clouded.Goals as goal

pub returns : goal.returns
returns c =
    let clouds : c.self.inside.clouds ≡ writes_of c.args.self.now = c.self.invariant.clouds_of ∙ ap writes_of c.self.view_is in
    subst (λ w. IsFirstPlace (IsClouded w c.args.key.now) c.args.low c.args.high c.meets.result) clouds
    (IsFirstPlace-found (IsClouded c.self.inside.clouds c.args.key.now) c.args.low c.args.high c.meets.result c.meets.ensures.some c.meets.ensures.none)
