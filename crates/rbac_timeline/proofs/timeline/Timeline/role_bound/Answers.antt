use Rattle.std.proofs.Common.{◌≡◌, ℕ, ◌∙◌, ap, subst, sym}
use Rattle.base_types.specs.declared.kubernetes.key.ObjectKey.{ObjectKey}
use Rattle.base_types.specs.declared.kubernetes.request.RequestAttrs.{RequestAttrs}
use Rattle.base_types.specs.declared.kubernetes.request.User.{User}
use Rattle.clouds.specs.Clouds.{IsClouded}
use Rattle.rbac_timeline.specs.declared.history.Content.TheVariants.{Bound as BoundTo}
use Rattle.rbac_timeline.specs.declared.history.Stored.{Stored}
use Rattle.rbac_timeline.specs.declared.way.Way.{Way}
use Rattle.rbac_timeline.specs.Extents.{MustGrantByKey, MustGrantByRole}
use Rattle.rbac_timeline.specs.Kept.{content_of}
use Rattle.rbac_timeline.specs.Kinds.{IsBindingOf}
use Rattle.rbac_timeline.specs.Known.{Known, writes_of}
use Rattle.rbac_timeline.specs.Sound.{AreSound}
use Rattle.rbac_timeline.proofs.Contents.{binding_must, binding_must_parts}
use Rattle.rbac_timeline.proofs.Extremes.{held_from}
use Rattle.rbac_timeline.proofs.Granting.{must_clouded}
use Rattle.rbac_timeline.proofs.Throughout.{IfSome-role}
use Rattle.rbac_timeline.proofs.timeline.Timeline.role_bound.Goals as goal

pub returns-in-Some : goal.returns-in-Some
returns-in-Some c =
    let known = c.args.self.now in
    let key = c.args.key.now in
    let place = c.args.place in
    let sound : AreSound known.versions known.ends = subst (λ (k : Known). AreSound k.versions k.ends) c.self.view_is c.self.invariant.sound in
    let found = c.in-Some.ensures.some in
    let version = found.0 in
    let latest = found.1 in
    let stored : content_of key version.content ≡ c.in-Some.stored.now.content =
    ap (λ k. content_of k version.content) (sym latest.of_key) ∙ sym (ap (λ (s : Stored). s.content) found.2) in
    IfSome-role
    (λ (role : ObjectKey). (way : Way) (who : User) (attrs : RequestAttrs) (r n : ℕ) → (MustGrantByRole known role r attrs → MustGrantByRole known role n attrs) → MustGrantByKey known way r place who attrs key
    → MustGrantByKey known way n place who attrs key)
    c.in-Some.stored.now.content c.role.result c.role.ensures
    (λ binding role holds way who attrs r n carries must.
    let clear : IsClouded (writes_of known) key place → ⊥ = λ clouded. must_clouded (IsBindingOf key) known key place _ clouded must in
    let held = held_from (IsBindingOf key) known sound key place version clear latest in
    let parts = binding_must_parts known sound key way r place who attrs version held (BoundTo binding role) (stored ∙ holds) must in
    binding_must known sound key way n place who attrs version held (BoundTo binding role) (stored ∙ holds) parts.0 (parts.1.0, parts.1.1, carries parts.1.2))
