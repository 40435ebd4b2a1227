use Rattle.std.proofs.Common.{◌≡◌, List, Some, ap, subst, sym, ◌∙◌}
use Rattle.std.specs.Option.{IfNone, IfSome}
use Rattle.std.specs.Prelude.{option_map}
use Rattle.audit_event.specs.declared.event.Event.{Event}
use Rattle.base_types.specs.PlaceOrder.{AreLeastPlaces}
use Rattle.base_types.specs.declared.verdict.placed.Places.{Places}
use Rattle.base_types.specs.declared.kubernetes.request.User.{User}
use Rattle.rbac_timeline.specs.Decisions.{IsDecidedAt}
use Rattle.write_groups.specs.declared.event.LogEvent.{LogEvent}
use Rattle.log_context.specs.Given.{AreNoneGiven, IsGivenWithin, judged_in}
use Rattle.log_context.specs.Histories.{decides_test}
use Rattle.log_context.specs.Judged.{judged_user}
use Rattle.log_context.specs.Known.{Known}
use Rattle.log_context.proofs.Choosing.{judged_given, judged_none, none_weaker, some_weaker}
use Rattle.log_context.proofs.context.Context.find_decision.Goals as goal

pub returns-in-Some-clause-some : goal.returns-in-Some-clause-some
returns-in-Some-clause-some c =
    let inside = c.self.inside in
    let event = c.in-Some.recorded.now in
    let at : Some (event, c.in-Some.decision) ≡ judged_in inside.events inside.log.events c.args.event =
    sym (ap (λ r. option_map (λ j. (j.0.now, j.1)) r) c.in-Some.is) ∙ c.judged_in.ensures
    ∙ ap (λ (es : List Event). judged_in es c.as_slice-2.result.now c.args.event) c.as_slice.ensures
    ∙ ap (λ (log : List LogEvent). judged_in inside.events log c.args.event) c.as_slice-2.ensures in
    let least : IfSome c.find_decision.result (AreLeastPlaces (IsDecidedAt inside.timeline c.args.low c.args.high (judged_user event) event.attrs c.in-Some.decision)) =
    subst (λ (who : User). IfSome c.find_decision.result (AreLeastPlaces (IsDecidedAt inside.timeline c.args.low c.args.high who event.attrs c.in-Some.decision))) c.judged_user.ensures c.find_decision.ensures.some in
    subst (λ (k : Known). IfSome c.find_decision.result (AreLeastPlaces (IsGivenWithin (decides_test k.events k.log k.rbac c.args.event) c.args.low c.args.high))) c.self.view_is
    (some_weaker c.find_decision.result (AreLeastPlaces (IsDecidedAt inside.timeline c.args.low c.args.high (judged_user event) event.attrs c.in-Some.decision))
    (AreLeastPlaces (IsGivenWithin (decides_test inside.events inside.log.events inside.timeline c.args.event) c.args.low c.args.high))
    (λ places is. judged_given inside.events inside.log.events inside.timeline c.args.event c.args.low c.args.high event c.in-Some.decision c.self.invariant.sound_roles at places is) least)

pub returns-in-Some-clause-none : goal.returns-in-Some-clause-none
returns-in-Some-clause-none c =
    let inside = c.self.inside in
    let event = c.in-Some.recorded.now in
    let at : Some (event, c.in-Some.decision) ≡ judged_in inside.events inside.log.events c.args.event =
    sym (ap (λ r. option_map (λ j. (j.0.now, j.1)) r) c.in-Some.is) ∙ c.judged_in.ensures
    ∙ ap (λ (es : List Event). judged_in es c.as_slice-2.result.now c.args.event) c.as_slice.ensures
    ∙ ap (λ (log : List LogEvent). judged_in inside.events log c.args.event) c.as_slice-2.ensures in
    let none : IfNone c.find_decision.result ((places : Places) → IsDecidedAt inside.timeline c.args.low c.args.high (judged_user event) event.attrs c.in-Some.decision places → ⊥) =
    subst (λ (who : User). IfNone c.find_decision.result ((places : Places) → IsDecidedAt inside.timeline c.args.low c.args.high who event.attrs c.in-Some.decision places → ⊥)) c.judged_user.ensures c.find_decision.ensures.none in
    subst (λ (k : Known). IfNone c.find_decision.result (AreNoneGiven (decides_test k.events k.log k.rbac c.args.event) c.args.low c.args.high)) c.self.view_is
    (none_weaker c.find_decision.result ((places : Places) → IsDecidedAt inside.timeline c.args.low c.args.high (judged_user event) event.attrs c.in-Some.decision places → ⊥)
    (AreNoneGiven (decides_test inside.events inside.log.events inside.timeline c.args.event) c.args.low c.args.high)
    (λ nowhere. judged_none inside.events inside.log.events inside.timeline c.args.event c.args.low c.args.high event c.in-Some.decision c.self.invariant.sound_roles at nowhere) none)
