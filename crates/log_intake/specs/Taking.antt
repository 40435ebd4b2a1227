-- What was taken of a name, in front of what is left of it.
use Rattle.std.specs.Prelude.{◌≡◌, ⊤, ℕ, ◌+◌, ◌≤◌, List, ◌++◌, length, Option, Some, Result, Ok, Err, IfOk, OnOk, IsErrOf}
use Rattle.std.specs.Io.KnownBytes.{IsAtEnd}
use Rattle.edge_io.specs.Faults.{Rose}
use Rattle.edge_io.specs.Whole.{HasTaken}
use Rattle.line_reader.specs.Lines.{longest_line, whole_lines, rest_of, numbered}
use Rattle.audit_event.specs.declared.event.Event.{Event}
use Rattle.log_intake.specs.declared.stop.LogStop.{LogStop}
use Rattle.log_intake.specs.declared.stop.LogStop.TheVariants.{Malformed, LineTooLong, TooManyEvents, TooLong, ReadFault, OutOfMemory}
use Rattle.log_intake.specs.Kept.{AreLogEvents}
use Rattle.log_intake.specs.Log.{LogState, IsLogRead, TakesLines, nothing_read, most_input}

-- a stop that the bytes are the cause of
abbrev pub IsRefusal : LogStop → Type 0
IsRefusal (Malformed line code) = ⊤
IsRefusal LineTooLong = ⊤
IsRefusal TooManyEvents = ⊤
IsRefusal TooLong = ⊤
IsRefusal ReadFault = ⊥
IsRefusal OutOfMemory = ⊥

-- events and refusals are those of the log
abbrev pub AnswersLog : List ℕ → Result (List Event) LogStop → Type 0
AnswersLog bytes (Ok events) = IsLogRead bytes (Ok events)
AnswersLog bytes (Err stop) = IsRefusal stop → IsLogRead bytes (Err stop)

-- these bytes of a log refuse nothing, whatever comes
pub record HoldsNoRefusal (bytes : List ℕ) : Type 0 where
  pub state : LogState
  pub lines : TakesLines nothing_read (numbered 0 (whole_lines bytes)) (Ok state)
  pub short : length (rest_of bytes) ≤ longest_line
  pub within : length bytes ≤ most_input

-- a batch has at most so many bytes
abbrev pub most_batch : ℕ
most_batch = 4259840

-- a log that was read to its end, or up to a failed read
abbrev pub RefusesNothing : Result (List Event) LogStop → Type 0
RefusesNothing (Ok events) = ⊤
RefusesNothing (Err (Malformed line code)) = ⊥
RefusesNothing (Err LineTooLong) = ⊥
RefusesNothing (Err TooManyEvents) = ⊥
RefusesNothing (Err TooLong) = ⊥
RefusesNothing (Err ReadFault) = ⊤
RefusesNothing (Err OutOfMemory) = ⊥

-- of a log at most a batch was taken behind a front that refuses nothing; where nothing is refused, no byte taken does
pub record TakesLog (old now : Option (List ℕ)) (fine : Type 0) : Type 0 where
  pub front : List ℕ
  pub batch : List ℕ
  pub taken : HasTaken old now (front ++ batch)
  pub kept : HoldsNoRefusal front
  pub short : length batch ≤ most_batch
  pub within : length (front ++ batch) ≤ most_input + 65536
  pub blameless : fine → HoldsNoRefusal (front ++ batch)

-- what is answered to a log, and what is taken of it; the faults are those of the desk
pub record ReadsLog (old now : Option (List ℕ)) (faults_before faults_now : ℕ) (answer : Result (List Event) LogStop) : Type 0 where
  pub answers : (bytes : List ℕ) → old ≡ Some bytes → AnswersLog bytes answer
  pub sound : IfOk answer AreLogEvents
  pub whole : OnOk answer (IsAtEnd now)
  pub fault : IsErrOf answer ReadFault → Rose faults_before faults_now
  pub counted : faults_before ≤ faults_now
  pub taken : TakesLog old now (RefusesNothing answer)
