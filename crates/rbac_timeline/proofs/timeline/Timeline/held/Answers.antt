use Rattle.std.proofs.Common.{◌≡◌, ◌∙◌, ap, subst, sym}
use Rattle.std.proofs.lemmas.Bool.{both_ways, not-false, not-true}
use Rattle.rbac_timeline.specs.declared.history.Stored.{Stored}
use Rattle.rbac_timeline.specs.Kept.{content_of}
use Rattle.rbac_timeline.specs.Kinds.{IsBindingOf}
use Rattle.rbac_timeline.specs.Known.{Known}
use Rattle.rbac_timeline.specs.Sound.{AreSound}
use Rattle.rbac_timeline.proofs.Contents.{binding_may, binding_may_parts}
use Rattle.rbac_timeline.proofs.Extremes.{held_from}
use Rattle.rbac_timeline.proofs.Granting.{may_missing}
use Rattle.rbac_timeline.proofs.timeline.Timeline.held.Goals as goal

pub returns-else-not-presence-clause-some : goal.returns-else-not-presence-clause-some
returns-else-not-presence-clause-some c = λ way role_place who attrs.
    let known = c.args.self.now in
    let key = c.args.key.now in
    let place = c.args.place in
    let sound : AreSound known.versions known.ends = subst (λ (k : Known). AreSound k.versions k.ends) c.self.view_is c.self.invariant.sound in
    let found = c.in-Some.ensures.some in
    let version = found.0 in
    let latest = found.1 in
    let held = held_from (IsBindingOf key) known sound key place version c.requires latest in
    let kept : content_of key version.content ≡ c.in-Some.stored.now.content =
    ap (λ k. content_of k version.content) (sym latest.of_key) ∙ sym (ap (λ (s : Stored). s.content) found.2) in
    let there = (c.presence.ensures.may version latest.of_key (sym (ap (λ (s : Stored). s.revision) found.2))).0 (not-false c.presence.result.may c.if-not-presence.false) in (
      (λ may. (binding_may_parts known sound key way role_place place who attrs version held _ kept may).1),
      (λ grants. binding_may known sound key way role_place place who attrs version held _ kept there grants),
    )

pub returns-then-not-presence-clause-none : goal.returns-then-not-presence-clause-none
returns-then-not-presence-clause-none c = λ way role_place who attrs may.
    let known = c.args.self.now in
    let key = c.args.key.now in
    let place = c.args.place in
    let sound : AreSound known.versions known.ends = subst (λ (k : Known). AreSound k.versions k.ends) c.self.view_is c.self.invariant.sound in
    let found = c.in-Some.ensures.some in
    let version = found.0 in
    let latest = found.1 in
    let held = held_from (IsBindingOf key) known sound key place version c.requires latest in
    let kept : content_of key version.content ≡ c.in-Some.stored.now.content =
    ap (λ k. content_of k version.content) (sym latest.of_key) ∙ sym (ap (λ (s : Stored). s.content) found.2) in
    let there = (binding_may_parts known sound key way role_place place who attrs version held _ kept may).0 in
    both_ways c.presence.result.may (not-true c.presence.result.may c.if-not-presence.true) ((c.presence.ensures.may version latest.of_key (sym (ap (λ (s : Stored). s.revision) found.2))).1 there)

pub returns-in-None-clause-none : goal.returns-in-None-clause-none
returns-in-None-clause-none c = λ way role_place who attrs may.
    may_missing (IsBindingOf c.args.key.now) c.args.self.now c.args.key.now c.args.place _ c.requires c.in-None.ensures.none may
