use Rattle.std.proofs.Common.{◌≡◌, List, None, Some, ap, map, option_map, refl, subst, sym, ◌∙◌}
use Rattle.std.proofs.lemmas.Result.{IfOk-weaker}
use Rattle.audit_event.specs.declared.event.Event.{Event}
use Rattle.history_model.specs.Groups as model
use Rattle.history_model.specs.Making.{IsLeastFault}
use Rattle.object_past.specs.Modelled.{version_of}
use Rattle.past_building.specs.Modelled.{AreCloudsOf, making_of}
use Rattle.past_building.specs.Written.{making_at}
use Rattle.write_groups.specs.Modelled.{HasEvents, HasTimes, event_of}
use Rattle.write_groups.specs.declared.event.LogEvent.{LogEvent}
use Rattle.log_context.specs.Histories.{body_test, history_of}
use Rattle.log_context.specs.Known.{Known}
use Rattle.log_context.proofs.Remade.{making_none, making_same, making_there}
use Rattle.log_context.proofs.context.Context.making_fault.Goals as goal

pub returns-clause-write : goal.returns-clause-write
returns-clause-write c =
    let inside = c.self.inside in
    let h = history_of c.args.self.now in
    let log = c.as_slice-log.result.now in
    let making = making_of c.in-Some.making in
    let times : HasTimes inside.windows h = subst (λ (k : Known). HasTimes inside.windows (history_of k)) c.self.view_is (record { start = sym c.self.invariant.start; spans = refl }) in
    let clouds : AreCloudsOf inside.clouds h = subst (λ (k : Known). AreCloudsOf inside.clouds (history_of k)) c.self.view_is c.self.invariant.clouds_of in
    let bodies : h.body ≡ body_test inside.setup c.as_slice.result.now log inside.pool.trees =
    sym (ap (λ (k : Known). (history_of k).body) c.self.view_is)
    ∙ ap (λ (es : List Event). body_test inside.setup es inside.log.events inside.pool.trees) (sym c.as_slice.ensures)
    ∙ ap (λ (l : List LogEvent). body_test inside.setup c.as_slice.result.now l inside.pool.trees) (sym c.as_slice-log.ensures) in
    let used = c.requires making in
    let all : HasEvents log h = ap (λ (l : List LogEvent). map event_of l) (sym (ap (λ (k : Known). k.log) c.self.view_is) ∙ sym c.as_slice-log.ensures) in
    let at : Some making ≡ making_at log c.args.event = sym (ap (λ r. option_map making_of r) c.in-Some.is) ∙ c.making_at.ensures in
    IfOk-weaker c.making_fault.result _ _
    (λ fault holds m is same. subst (λ (x : model.Making). IsLeastFault h x (option_map (λ v. version_of v.now) c.args.before) fault) (making_same h log all c.args.event m making is same at)
    (holds h times (record { clouds = clouds; bodies = bodies }) (λ created. (λ yes. used.0 (sym c.is_used-is_used.ensures ∙ yes), λ uses. c.is_used-is_used.ensures ∙ used.1 uses))))
    c.making_fault.ensures

pub returns-clause-other : goal.returns-clause-other
returns-clause-other c =
    let h = history_of c.args.self.now in
    let log = c.as_slice-log.result.now in
    let making = making_of c.in-Some.making in
    let all : HasEvents log h = ap (λ (l : List LogEvent). map event_of l) (sym (ap (λ (k : Known). k.log) c.self.view_is) ∙ sym c.as_slice-log.ensures) in
    let at : Some making ≡ making_at log c.args.event = sym (ap (λ r. option_map making_of r) c.in-Some.is) ∙ c.making_at.ensures in
    let there = making_there h log all c.args.event making at in
    IfOk-weaker c.making_fault.result _ _ (λ fault holds none. absurd (none making there.0 there.1)) c.making_fault.ensures

pub returns-in_default-clause-write : goal.returns-in_default-clause-write
returns-in_default-clause-write c =
    let h = history_of c.args.self.now in
    let log = c.as_slice-log.result.now in
    let all : HasEvents log h = ap (λ (l : List LogEvent). map event_of l) (sym (ap (λ (k : Known). k.log) c.self.view_is) ∙ sym c.as_slice-log.ensures) in
    let at : None ≡ making_at log c.args.event = sym (ap (λ r. option_map making_of r) c.in_default.is) ∙ c.making_at.ensures in
    λ m is same. absurd (making_none h log all c.args.event m is same at)
