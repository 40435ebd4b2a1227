use Rattle.std.proofs.Common.{◌≡◌, ◌∙◌, ap, refl, subst, sym}
use Rattle.std.proofs.lemmas.Bool.{both_ways, false≢true}
use Rattle.clouds.specs.Clouds.{IsClouded}
use Rattle.rbac_timeline.specs.declared.history.Stored.{Stored}
use Rattle.rbac_timeline.specs.Kept.{content_of}
use Rattle.rbac_timeline.specs.Known.{Known, writes_of}
use Rattle.rbac_timeline.specs.Sound.{AreSound}
use Rattle.rbac_rules.specs.Granting.{Grants}
use Rattle.rbac_timeline.specs.States.{ReadsRules}
use Rattle.rbac_timeline.proofs.Contents.{role_may, role_may_parts, role_must, role_must_parts, test_of_both}
use Rattle.rbac_timeline.proofs.Extremes.{held_from}
use Rattle.rbac_timeline.proofs.Granting.{may_clouded, may_missing, must_clouded, must_missing}
use Rattle.rbac_timeline.proofs.timeline.Timeline.role_extent.Goals as goal

pub returns-then-clouded-clause-may : goal.returns-then-clouded-clause-may
returns-then-clouded-clause-may c =
    let known = c.args.self.now in
    let sound : AreSound known.versions known.ends = subst (λ (k : Known). AreSound k.versions k.ends) c.self.view_is c.self.invariant.sound in
    let clouds : c.self.inside.clouds ≡ writes_of known = c.self.invariant.clouds_of ∙ ap writes_of c.self.view_is in
    let clouded = subst (λ w. IsClouded w c.args.key.now c.args.place) clouds (c.clouded.ensures.0 c.if-clouded.true) in
    ((λ passed. may_clouded ReadsRules known c.args.key.now c.args.place (λ rules. Grants rules c.args.attrs.now) clouded), (λ may. refl))

pub returns-then-clouded-clause-must : goal.returns-then-clouded-clause-must
returns-then-clouded-clause-must c =
    let known = c.args.self.now in
    let sound : AreSound known.versions known.ends = subst (λ (k : Known). AreSound k.versions k.ends) c.self.view_is c.self.invariant.sound in
    let clouds : c.self.inside.clouds ≡ writes_of known = c.self.invariant.clouds_of ∙ ap writes_of c.self.view_is in
    let clouded = subst (λ w. IsClouded w c.args.key.now c.args.place) clouds (c.clouded.ensures.0 c.if-clouded.true) in
    ((λ passed. absurd (false≢true passed)), (λ must. absurd (must_clouded ReadsRules known c.args.key.now c.args.place (λ rules. Grants rules c.args.attrs.now) clouded must)))

pub returns-in-None-clause-may : goal.returns-in-None-clause-may
returns-in-None-clause-may c =
    let known = c.args.self.now in
    let sound : AreSound known.versions known.ends = subst (λ (k : Known). AreSound k.versions k.ends) c.self.view_is c.self.invariant.sound in
    let clouds : c.self.inside.clouds ≡ writes_of known = c.self.invariant.clouds_of ∙ ap writes_of c.self.view_is in (
      (λ passed. absurd (false≢true passed)),
      (λ may. absurd (may_missing ReadsRules known c.args.key.now c.args.place (λ rules. Grants rules c.args.attrs.now)
          (λ clouded. both_ways _ c.if-clouded.false (c.clouded.ensures.1 (subst (λ w. IsClouded w c.args.key.now c.args.place) (sym clouds) clouded))) c.in-None.ensures.none may)),
    )

pub returns-in-None-clause-must : goal.returns-in-None-clause-must
returns-in-None-clause-must c = (
  (λ passed. absurd (false≢true passed)),
  (λ must. absurd (must_missing ReadsRules c.args.self.now c.args.key.now c.args.place (λ rules. Grants rules c.args.attrs.now) c.in-None.ensures.none must)),
)

pub returns-in-Some-clause-may : goal.returns-in-Some-clause-may
returns-in-Some-clause-may c =
    let known = c.args.self.now in
    let sound : AreSound known.versions known.ends = subst (λ (k : Known). AreSound k.versions k.ends) c.self.view_is c.self.invariant.sound in
    let clouds : c.self.inside.clouds ≡ writes_of known = c.self.invariant.clouds_of ∙ ap writes_of c.self.view_is in
    let clear = λ (clouded : IsClouded (writes_of known) c.args.key.now c.args.place). both_ways _ c.if-clouded.false (c.clouded.ensures.1 (subst (λ w. IsClouded w c.args.key.now c.args.place) (sym clouds) clouded)) in
    let found = c.in-Some.ensures.some in
    let version = found.0 in
    let latest = found.1 in
    let held = held_from ReadsRules known sound c.args.key.now c.args.place version clear latest in
    let kept : content_of c.args.key.now version.content ≡ c.in-Some.stored.now.content =
    ap (λ k. content_of k version.content) (sym latest.of_key) ∙ sym (ap (λ (s : Stored). s.content) found.2) in
    test_of_both _ _ _ _ _ _ c.and.ensures.may (c.presence.ensures.may version latest.of_key (sym (ap (λ (s : Stored). s.revision) found.2))) c.rules_extent.ensures.may
    (λ there grants. role_may known sound c.args.key.now c.args.place c.args.attrs.now version held _ kept there grants)
    (λ may. role_may_parts known sound c.args.key.now c.args.place c.args.attrs.now version held _ kept may)

pub returns-in-Some-clause-must : goal.returns-in-Some-clause-must
returns-in-Some-clause-must c =
    let known = c.args.self.now in
    let sound : AreSound known.versions known.ends = subst (λ (k : Known). AreSound k.versions k.ends) c.self.view_is c.self.invariant.sound in
    let clouds : c.self.inside.clouds ≡ writes_of known = c.self.invariant.clouds_of ∙ ap writes_of c.self.view_is in
    let clear = λ (clouded : IsClouded (writes_of known) c.args.key.now c.args.place). both_ways _ c.if-clouded.false (c.clouded.ensures.1 (subst (λ w. IsClouded w c.args.key.now c.args.place) (sym clouds) clouded)) in
    let found = c.in-Some.ensures.some in
    let version = found.0 in
    let latest = found.1 in
    let held = held_from ReadsRules known sound c.args.key.now c.args.place version clear latest in
    let kept : content_of c.args.key.now version.content ≡ c.in-Some.stored.now.content =
    ap (λ k. content_of k version.content) (sym latest.of_key) ∙ sym (ap (λ (s : Stored). s.content) found.2) in
    test_of_both _ _ _ _ _ _ c.and.ensures.must (c.presence.ensures.must version latest.of_key (sym (ap (λ (s : Stored). s.revision) found.2))) c.rules_extent.ensures.must
    (λ certain grants. role_must known sound c.args.key.now c.args.place c.args.attrs.now version held _ kept certain grants)
    (λ must. role_must_parts known sound c.args.key.now c.args.place c.args.attrs.now version held _ kept must)
