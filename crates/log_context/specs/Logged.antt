-- The events of a log and the checkpoints of its setup in the terms of the model of history.
use Rattle.std.specs.Prelude.{◌≡◌, ℕ, pos, ◌+◌, ◌^◌, ◌++◌, false, List, Some, None, length, slice_get}
use Rattle.base_types.specs.Meaning.{Meaning}
use Rattle.audit_event.specs.declared.event.Event.{Event}
use Rattle.setup_file.specs.declared.setup.Checkpoint.{Checkpoint}
use Rattle.setup_file.specs.declared.setup.Setup.{Setup}
use Rattle.answer_class.specs.Classes.{class_of}
use Rattle.answer_class.specs.Conditions.{conditions_of}
use Rattle.answer_class.specs.Times.{lo, hi}
use Rattle.answer_class.specs.declared.conditions.Conditions.{Conditions}
use Rattle.write_groups.specs.declared.event.LogEvent.{LogEvent}
use Rattle.write_groups.specs.declared.event.Preconditions.{Preconditions}
use Rattle.write_groups.specs.declared.event.Reading.TheVariants.{Checkpoint as AtCheckpoint}
use Rattle.log_context.specs.Judged.{judged_decision}
use Rattle.log_context.specs.LogLevels.{other_level, omitted_stage}
use Rattle.log_context.specs.Readings.{reading_of}
use Rattle.log_context.specs.Shown.{IsShownAs, IsShownByCheckpoint}

abbrev pub preconditions_of : Conditions → Preconditions
preconditions_of asked = record { revision = asked.revision; uid = asked.uid }

abbrev pub no_preconditions : Preconditions
no_preconditions = record { revision = None; uid = None }

-- the event of the log
pub record IsLogged (setup : Setup) (trees : List Meaning) (event : Event) (logged : LogEvent) : Type 0 where
  pub line : logged.line ≡ event.line
  pub lo : logged.lo.0 ≡ lo setup event
  pub hi : logged.hi.0 ≡ hi setup event
  pub reading : logged.reading ≡ reading_of event.attrs
  pub preconditions : logged.preconditions ≡ preconditions_of (conditions_of setup event)
  pub answer : IsShownAs trees (class_of setup event) logged.answer
  pub other_level : logged.other_level ≡ other_level setup event
  pub omitted_stage : logged.omitted_stage ≡ omitted_stage setup event
  pub decision : logged.decision ≡ judged_decision setup event

-- no line of a log is behind this one
abbrev pub last_line : ℕ
last_line = 2 ^ 40

-- The checkpoint of this number, from 1. It is judged at its revision alone, so its moments, which are 0, play no part.
pub record IsLoggedCheckpoint (trees : List Meaning) (number : ℕ) (checkpoint : Checkpoint) (logged : LogEvent) : Type 0 where
  pub line : logged.line ≡ last_line + number
  pub lo : logged.lo.0 ≡ pos 0
  pub hi : logged.hi.0 ≡ pos 0
  pub reading : logged.reading ≡ AtCheckpoint checkpoint.revision
  pub preconditions : logged.preconditions ≡ no_preconditions
  pub answer : IsShownByCheckpoint trees checkpoint logged.answer
  pub other_level : logged.other_level ≡ false
  pub omitted_stage : logged.omitted_stage ≡ false
  pub decision : logged.decision ≡ None

-- the events by their numbers
pub record AreLoggedEvents (setup : Setup) (trees : List Meaning) (events : List Event) (logged : List LogEvent) : Type 0 where
  pub all : length logged ≡ length events
  pub each : (number : ℕ) (event : Event) (found : LogEvent) → slice_get events number ≡ Some event → slice_get logged number ≡ Some found → IsLogged setup trees event found

-- the checkpoints in their order, the first of which has the number 1
pub record AreLoggedCheckpoints (trees : List Meaning) (checkpoints : List Checkpoint) (logged : List LogEvent) : Type 0 where
  pub all : length logged ≡ length checkpoints
  pub each : (number : ℕ) (checkpoint : Checkpoint) (found : LogEvent) → slice_get checkpoints number ≡ Some checkpoint
      → slice_get logged number ≡ Some found → IsLoggedCheckpoint trees (number + 1) checkpoint found

-- the events of the log, and behind them the checkpoints of the setup
pub record AreLogged (setup : Setup) (trees : List Meaning) (events : List Event) (logged : List LogEvent) : Type 0 where
  pub of_log : List LogEvent
  pub of_setup : List LogEvent
  pub joined : logged ≡ of_log ++ of_setup
  pub in_log : AreLoggedEvents setup trees events of_log
  pub behind : AreLoggedCheckpoints trees setup.checkpoints of_setup
