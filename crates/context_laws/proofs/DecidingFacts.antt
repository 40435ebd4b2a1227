-- The history of a context decides as a choice of states does.
use Rattle.std.proofs.Common.{◌≡◌, ℕ, ◌<◌, true, length, Some, option_and_then, slice_get, refl, sym, ap, ◌∙◌, subst, arith}
use Rattle.std.specs.Prelude.{◌↔◌}
use Rattle.std.proofs.lemmas.Option.{slice_get_within}
use Rattle.audit_event.specs.declared.event.Event.{Event}
use Rattle.base_types.specs.declared.verdict.placed.Places.{Places}
use Rattle.base_types.specs.declared.kubernetes.request.Decision.{Decision}
use Rattle.base_types.specs.declared.kubernetes.request.RequestAttrs.{RequestAttrs}
use Rattle.base_types.specs.declared.kubernetes.request.User.{User}
use Rattle.history_model.proofs.OutcomeLaw.{get_within}
use Rattle.rbac_timeline.specs.Deciding.{is_possible}
use Rattle.rbac_timeline.specs.Decisions.{IsPossible}
use Rattle.rbac_timeline.specs.Known as rbac
use Rattle.rbac_timeline.specs.Sound.{AreSound}
use Rattle.log_context.proofs.Built.{are_ends, nodes_within}
use Rattle.log_context.proofs.LogLemmas.{look_left}
use Rattle.log_context.proofs.RoleEnds.{roles_sound}
use Rattle.log_context.specs.Histories.{decides_by, history_of}
use Rattle.log_context.specs.Judged.{judged_decision, judged_user}
use Rattle.log_context.specs.Known.{Known}
use Rattle.log_context.specs.Told.{IsTold}
use Rattle.write_groups.specs.declared.event.LogEvent.{LogEvent}
use Rattle.context_laws.specs.Deciding.{DecidesByChoice}

-- what is known of sound versions and removals
abbrev pub DecidesSound : Type 0
DecidesSound = (known : rbac.Known) (places : Places) (who : User) (attrs : RequestAttrs) (decision : Decision)
    → AreSound known.versions known.ends → (is_possible known places who attrs decision ≡ true) ↔ IsPossible known places who attrs decision

-- the roles and bindings of a log are sound
roles_are : (known : Known) → IsTold known → AreSound known.rbac.versions known.rbac.ends
roles_are known told =
    let h = history_of known in
    let readable = told.readable in
    let ends = are_ends h known.versions known.removals readable.versions.rising readable.order refl refl readable.removals in
    let nodes = nodes_within known.setup known.events known.trees known.snapshot known.log told.logged told.snapshot h refl refl readable.versions known.versions refl in
    subst (AreSound known.rbac.versions) (sym told.ends) (roles_sound known.trees known.versions known.removals known.rbac.versions told.roles ends nodes)

-- the decision of an event in the log
decision_at : (known : Known) (number : ℕ) (event : Event) → IsTold known → slice_get known.events number ≡ Some event → option_and_then (λ (e : LogEvent). e.decision) (slice_get known.log number) ≡ judged_decision known.setup event
decision_at known number event told at =
    let are = told.logged in
    let inside = slice_get_within known.events number event at in
    let all = are.in_log.all in
    let within : number < length are.of_log = omega (arith, inside, all) in
    let found = get_within are.of_log number within in
    let here : slice_get known.log number ≡ Some found.0 = ap (λ l. slice_get l number) are.joined ∙ look_left are.of_log are.of_setup number within ∙ found.1 in
    ap (option_and_then (λ (e : LogEvent). e.decision)) here ∙ (are.in_log.each number event found.0 at found.1).decision

decides_at : (known : Known) (number : ℕ) (event : Event) (decision : Decision) (places : Places) → IsTold known → slice_get known.events number ≡ Some event → judged_decision known.setup event ≡ Some decision
    → (history_of known).decides number places ≡ is_possible known.rbac places (judged_user event) event.attrs decision
decides_at known number event decision places told at judged =
    ap (λ found. decides_by known.rbac places found (option_and_then (λ (e : LogEvent). e.decision) (slice_get known.log number))) at
    ∙ ap (decides_by known.rbac places (Some event)) (decision_at known number event told at ∙ judged)

pub decides_by_choice : DecidesSound → DecidesByChoice
decides_by_choice law known number event decision places told at judged =
    let same = decides_at known number event decision places told at judged in
    let both = law known.rbac places (judged_user event) event.attrs decision (roles_are known told) in
    (λ right. both.0 (sym same ∙ right), λ possible. same ∙ both.1 possible)
