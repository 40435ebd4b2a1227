use Rattle.std.proofs.Common.{◌≡◌, ◌∙◌, ap, refl, subst, sym}
use Rattle.std.proofs.lemmas.Bool.{both_ways, false≢true}
use Rattle.clouds.specs.Clouds.{IsClouded}
use Rattle.rbac_timeline.specs.declared.history.Stored.{Stored}
use Rattle.rbac_timeline.specs.Extents.{bindings_in}
use Rattle.rbac_timeline.specs.Kept.{content_of}
use Rattle.rbac_timeline.specs.Kinds.{IsBindingOf, IsKeyOf}
use Rattle.rbac_timeline.specs.Known.{Known, writes_of}
use Rattle.rbac_timeline.specs.Sound.{AreSound}
use Rattle.rbac_timeline.proofs.Contents.{binding_may, binding_may_parts, binding_must, binding_must_parts, test_of_both}
use Rattle.rbac_timeline.proofs.Extremes.{held_from}
use Rattle.rbac_timeline.proofs.Granting.{may_clouded, may_missing, must_clouded, must_missing}
use Rattle.rbac_timeline.proofs.timeline.Timeline.key_extent.Goals as goal

pub returns-then-clouded-clause-may : goal.returns-then-clouded-clause-may
returns-then-clouded-clause-may c =
    let known = c.args.self.now in
    let key = c.args.key.now in
    let place = c.args.link.binding_place in
    let sound : AreSound known.versions known.ends = subst (λ (k : Known). AreSound k.versions k.ends) c.self.view_is c.self.invariant.sound in
    let clouds : c.self.inside.clouds ≡ writes_of known = c.self.invariant.clouds_of ∙ ap writes_of c.self.view_is in
    let kind : IsKeyOf (bindings_in c.args.link.way) key = rw (c.kind_of_key.ensures, c.bindings.ensures) at c.is_kind.ensures.0 c.if-not-is_kind.false in
    let reached = c.reaches.ensures.0 c.if-not-reaches.false in
    let clouded = subst (λ w. IsClouded w key place) clouds (c.clouded.ensures.0 c.if-clouded.true) in
    ((λ passed. (kind, reached, may_clouded (IsBindingOf key) known key place _ clouded)), (λ may. refl))

pub returns-then-clouded-clause-must : goal.returns-then-clouded-clause-must
returns-then-clouded-clause-must c =
    let known = c.args.self.now in
    let key = c.args.key.now in
    let place = c.args.link.binding_place in
    let sound : AreSound known.versions known.ends = subst (λ (k : Known). AreSound k.versions k.ends) c.self.view_is c.self.invariant.sound in
    let clouds : c.self.inside.clouds ≡ writes_of known = c.self.invariant.clouds_of ∙ ap writes_of c.self.view_is in
    let kind : IsKeyOf (bindings_in c.args.link.way) key = rw (c.kind_of_key.ensures, c.bindings.ensures) at c.is_kind.ensures.0 c.if-not-is_kind.false in
    let reached = c.reaches.ensures.0 c.if-not-reaches.false in
    let clouded = subst (λ w. IsClouded w key place) clouds (c.clouded.ensures.0 c.if-clouded.true) in
    ((λ passed. absurd (false≢true passed)), (λ must. absurd (must_clouded (IsBindingOf key) known key place _ clouded must.2)))

pub returns-in-None-clause-may : goal.returns-in-None-clause-may
returns-in-None-clause-may c =
    let known = c.args.self.now in
    let key = c.args.key.now in
    let place = c.args.link.binding_place in
    let sound : AreSound known.versions known.ends = subst (λ (k : Known). AreSound k.versions k.ends) c.self.view_is c.self.invariant.sound in
    let clouds : c.self.inside.clouds ≡ writes_of known = c.self.invariant.clouds_of ∙ ap writes_of c.self.view_is in
    let kind : IsKeyOf (bindings_in c.args.link.way) key = rw (c.kind_of_key.ensures, c.bindings.ensures) at c.is_kind.ensures.0 c.if-not-is_kind.false in
    let reached = c.reaches.ensures.0 c.if-not-reaches.false in
    let clear = λ (clouded : IsClouded (writes_of known) key place). both_ways _ c.if-clouded.false (c.clouded.ensures.1 (subst (λ w. IsClouded w key place) (sym clouds) clouded)) in
    ((λ passed. absurd (false≢true passed)), (λ may. absurd (may_missing (IsBindingOf key) known key place _ clear c.in-None.ensures.none may.2)))

pub returns-in-None-clause-must : goal.returns-in-None-clause-must
returns-in-None-clause-must c =
    ((λ passed. absurd (false≢true passed)), (λ must. absurd (must_missing (IsBindingOf c.args.key.now) c.args.self.now c.args.key.now c.args.link.binding_place _ c.in-None.ensures.none must.2)))

pub returns-in-Some-clause-may : goal.returns-in-Some-clause-may
returns-in-Some-clause-may c =
    let known = c.args.self.now in
    let key = c.args.key.now in
    let place = c.args.link.binding_place in
    let sound : AreSound known.versions known.ends = subst (λ (k : Known). AreSound k.versions k.ends) c.self.view_is c.self.invariant.sound in
    let clouds : c.self.inside.clouds ≡ writes_of known = c.self.invariant.clouds_of ∙ ap writes_of c.self.view_is in
    let kind : IsKeyOf (bindings_in c.args.link.way) key = rw (c.kind_of_key.ensures, c.bindings.ensures) at c.is_kind.ensures.0 c.if-not-is_kind.false in
    let reached = c.reaches.ensures.0 c.if-not-reaches.false in
    let clear = λ (clouded : IsClouded (writes_of known) key place). both_ways _ c.if-clouded.false (c.clouded.ensures.1 (subst (λ w. IsClouded w key place) (sym clouds) clouded)) in
    let found = c.in-Some.ensures.some in
    let version = found.0 in
    let latest = found.1 in
    let held = held_from (IsBindingOf key) known sound key place version clear latest in
    let kept : content_of key version.content ≡ c.in-Some.stored.now.content =
    ap (λ k. content_of k version.content) (sym latest.of_key) ∙ sym (ap (λ (s : Stored). s.content) found.2) in
    test_of_both _ _ _ _ _ _ c.and.ensures.may (c.presence.ensures.may version latest.of_key (sym (ap (λ (s : Stored). s.revision) found.2))) c.content_extent.ensures.may
    (λ there grants. (kind, reached, binding_may known sound key c.args.link.way c.args.link.role_place place c.args.who.now c.args.attrs.now version held _ kept there grants))
    (λ may. binding_may_parts known sound key c.args.link.way c.args.link.role_place place c.args.who.now c.args.attrs.now version held _ kept may.2)

pub returns-in-Some-clause-must : goal.returns-in-Some-clause-must
returns-in-Some-clause-must c =
    let known = c.args.self.now in
    let key = c.args.key.now in
    let place = c.args.link.binding_place in
    let sound : AreSound known.versions known.ends = subst (λ (k : Known). AreSound k.versions k.ends) c.self.view_is c.self.invariant.sound in
    let clouds : c.self.inside.clouds ≡ writes_of known = c.self.invariant.clouds_of ∙ ap writes_of c.self.view_is in
    let kind : IsKeyOf (bindings_in c.args.link.way) key = rw (c.kind_of_key.ensures, c.bindings.ensures) at c.is_kind.ensures.0 c.if-not-is_kind.false in
    let reached = c.reaches.ensures.0 c.if-not-reaches.false in
    let clear = λ (clouded : IsClouded (writes_of known) key place). both_ways _ c.if-clouded.false (c.clouded.ensures.1 (subst (λ w. IsClouded w key place) (sym clouds) clouded)) in
    let found = c.in-Some.ensures.some in
    let version = found.0 in
    let latest = found.1 in
    let held = held_from (IsBindingOf key) known sound key place version clear latest in
    let kept : content_of key version.content ≡ c.in-Some.stored.now.content =
    ap (λ k. content_of k version.content) (sym latest.of_key) ∙ sym (ap (λ (s : Stored). s.content) found.2) in
    test_of_both _ _ _ _ _ _ c.and.ensures.must (c.presence.ensures.must version latest.of_key (sym (ap (λ (s : Stored). s.revision) found.2))) c.content_extent.ensures.must
    (λ certain grants. (kind, reached, binding_must known sound key c.args.link.way c.args.link.role_place place c.args.who.now c.args.attrs.now version held _ kept certain grants))
    (λ must. binding_must_parts known sound key c.args.link.way c.args.link.role_place place c.args.who.now c.args.attrs.now version held _ kept must.2)
