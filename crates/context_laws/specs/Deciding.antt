-- The decisions of a log, as a choice of states gives them.
use Rattle.std.specs.Prelude.{◌≡◌, ◌↔◌, ℕ, true, Some, slice_get}
use Rattle.audit_event.specs.declared.event.Event.{Event}
use Rattle.base_types.specs.declared.verdict.placed.Places.{Places}
use Rattle.base_types.specs.declared.kubernetes.request.Decision.{Decision}
use Rattle.rbac_timeline.specs.Decisions.{IsPossible}
use Rattle.log_context.specs.Histories.{history_of}
use Rattle.log_context.specs.Judged.{judged_decision, judged_user}
use Rattle.log_context.specs.Known.{Known}
use Rattle.log_context.specs.Told.{IsTold}

-- By the history that a context tells, caches at these places could give the judged decision of an event exactly
-- where one possible state for each role and each binding makes an authorizer give it.
abbrev pub DecidesByChoice : Type 0
DecidesByChoice = (known : Known) (number : ℕ) (event : Event) (decision : Decision) (places : Places)
    → IsTold known → slice_get known.events number ≡ Some event → judged_decision known.setup event ≡ Some decision
    → ((history_of known).decides number places ≡ true) ↔ IsPossible known.rbac places (judged_user event) event.attrs decision
