-- What is told of an event that no placement explains, and which choices explain each event.
use Rattle.std.specs.Prelude.{ℕ, List}
use Rattle.base_types.specs.Choices.{IsChoice}
use Rattle.base_types.specs.declared.verdict.claim.Reason.{Reason}
use Rattle.base_types.specs.declared.verdict.placed.Outcome.{Outcome}
use Rattle.history_model.specs.Events.{Event}
use Rattle.history_model.specs.Histories.{IsEvent, ranges}
use Rattle.history_model.specs.Local.{IsRightUnder}
use Rattle.history_model.specs.Outcomes.{AreWrites, Unexplained, Write, shown_low, shown_high}
use Rattle.log_context.specs.Histories.{history_of}
use Rattle.log_context.specs.Known.{Known}
use Rattle.log_verdict.specs.Judging.{IsPrinted}

-- the choice makes each event right
pub record ExplainsEach (known : Known) (choice : List ℕ) : Type 0 where
  pub chosen : IsChoice (ranges (history_of known)) choice
  pub right : (number : ℕ) (event : Event) → IsEvent (history_of known) number event → IsRightUnder (history_of known) choice number event

-- the event's window, or the range of its decision, and the writes there
pub record IsFindingOf (known : Known) (number : ℕ) (reason : Reason) (outcome : Outcome) : Type 0 where
  pub event : Event
  pub is : IsEvent (history_of known) number event
  pub writes : List Write
  pub are : AreWrites (history_of known) (shown_low (history_of known) event reason) (shown_high (history_of known) event reason) writes
  pub printed : IsPrinted known (Unexplained number reason (shown_low (history_of known) event reason) (shown_high (history_of known) event reason) writes) outcome
