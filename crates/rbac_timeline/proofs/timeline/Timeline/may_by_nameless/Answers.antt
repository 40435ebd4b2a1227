use Rattle.std.proofs.Common.{subst}
use Rattle.rbac_timeline.specs.Known.{Known}
use Rattle.rbac_timeline.specs.Nameless.{AreLows}
use Rattle.rbac_timeline.proofs.Unnamed.{may_unnamed}
use Rattle.rbac_timeline.proofs.timeline.Timeline.may_by_nameless.Goals as goal

pub returns : goal.returns
returns c =
    let are = subst (λ (k : Known). AreLows c.self.inside.nameless k.spans) c.self.view_is c.self.invariant.unnamed in
    rw (c.may_grant.ensures, c.bindings.ensures) (may_unnamed c.args.self.now c.self.inside.nameless are c.args.link.binding_place c.args.attrs.now c.args.link.way)
