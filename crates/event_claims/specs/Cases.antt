-- An event of a history that is judged.
use Rattle.std.specs.Prelude.{ℕ, Option}
use Rattle.base_types.specs.declared.verdict.claim.Reason.{Reason}
use Rattle.event_claims.specs.declared.case.Case.{Case}
use Rattle.history_model.specs.Events.{Event}
use Rattle.history_model.specs.Histories.{History, IsEvent}
use Rattle.object_past.specs.Faulted.{IsFaultOf}
use Rattle.write_groups.specs.Modelled.{event_of}

-- the fault is that of the event of this number
abbrev pub IsFaultAt : History → ℕ → Option Reason → Type 0
IsFaultAt h number fault = (event : Event) → IsEvent h number event → IsFaultOf h number event fault

pub record IsCaseOf (h : History) (case : Case) : Type 0 where
  pub here : IsEvent h case.number (event_of case.event.now)
  pub fault : IsFaultOf h case.number (event_of case.event.now) case.fault
