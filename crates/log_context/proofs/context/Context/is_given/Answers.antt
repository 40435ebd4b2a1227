use Rattle.std.proofs.Common.{◌≡◌, ◌↔◌, true, List, Some, ap, subst, sym, ◌∙◌}
use Rattle.std.specs.Prelude.{option_map}
use Rattle.audit_event.specs.declared.event.Event.{Event}
use Rattle.base_types.specs.declared.kubernetes.request.Decision.TheVariants.{Allow, Forbid}
use Rattle.base_types.specs.declared.kubernetes.request.User.{User}
use Rattle.rbac_timeline.specs.Decisions.{IsPossible}
use Rattle.write_groups.specs.declared.event.LogEvent.{LogEvent}
use Rattle.log_context.specs.Given.{judged_in}
use Rattle.log_context.specs.Histories.{decides_test}
use Rattle.log_context.specs.Judged.{judged_user}
use Rattle.log_context.specs.Known.{Known}
use Rattle.log_context.proofs.Choosing.{judged_decides, says_possible}
use Rattle.log_context.proofs.context.Context.is_given.Goals as goal

pub returns-in-Some : goal.returns-in-Some
returns-in-Some c =
    let inside = c.self.inside in
    let event = c.in-Some.recorded.now in
    let places = c.args.places.now in
    let at : Some (event, c.in-Some.decision) ≡ judged_in inside.events inside.log.events c.args.event =
    sym (ap (λ r. option_map (λ j. (j.0.now, j.1)) r) c.in-Some.is) ∙ c.judged_in.ensures
    ∙ ap (λ (es : List Event). judged_in es c.as_slice-2.result.now c.args.event) c.as_slice.ensures
    ∙ ap (λ (log : List LogEvent). judged_in inside.events log c.args.event) c.as_slice-2.ensures in
    let allow : (c.decide-possible.result.allow ≡ true) ↔ IsPossible inside.timeline places (judged_user event) event.attrs Allow =
    subst (λ (who : User). (c.decide-possible.result.allow ≡ true) ↔ IsPossible inside.timeline places who event.attrs Allow) c.judged_user.ensures c.decide-possible.ensures.allow in
    let forbid : (c.decide-possible.result.forbid ≡ true) ↔ IsPossible inside.timeline places (judged_user event) event.attrs Forbid =
    subst (λ (who : User). (c.decide-possible.result.forbid ≡ true) ↔ IsPossible inside.timeline places who event.attrs Forbid) c.judged_user.ensures c.decide-possible.ensures.forbid in
    subst (λ (k : Known). c.says.result ≡ decides_test k.events k.log k.rbac c.args.event places) c.self.view_is
    (c.says.ensures ∙ says_possible inside.timeline places (judged_user event) event.attrs c.decide-possible.result c.self.invariant.sound_roles allow forbid c.in-Some.decision
    ∙ sym (judged_decides inside.events inside.log.events inside.timeline c.args.event event c.in-Some.decision at places))
