-- Batches of lines, which are kept one after another, and of a line its events.
use Rattle.std.specs.Prelude.{◌≡◌, ℕ, ◌+◌, ◌-◌, ◌<◌, ◌≤◌, ◌⊎◌, List, length, Result, Ok, Err, IfOk, IfErr, OnOk, IsErr, IsErrOf}
use Rattle.std.specs.List.{AllZip}
use Rattle.base_types.specs.declared.foundation.memory.OutOfMemory.{OutOfMemory}
use Rattle.line_reader.specs.declared.line.Line.{Line}
use Rattle.line_reader.specs.Lines.{longest_line}
use Rattle.line_reader.specs.Reading.{line_value}
use Rattle.audit_event.specs.declared.event.Event.{Event}
use Rattle.batch_decode.specs.declared.decoded.Decoded.{Decoded}
use Rattle.batch_decode.specs.Batches.{IsDecodedLine}
use Rattle.log_intake.specs.declared.keeping.Place.{Place}
use Rattle.log_intake.specs.declared.stop.LogStop.{LogStop}
use Rattle.log_intake.specs.declared.stop.LogStop.TheVariants.{ReadFault}
use Rattle.log_intake.specs.Batches.{AreShort, line_values}
use Rattle.log_intake.specs.Kept.{AreBefore}
use Rattle.log_intake.specs.Log.{TakesEvent, TakesLine, TakesLines, log_state, numbered_events}
use Rattle.log_intake.specs.Numbering.{AreOrdered, last_number, most_extra, most_items}
use Rattle.log_intake.specs.Steps.{InOrder}
use Rattle.log_intake.specs.Taking.{IsRefusal}

-- an event was kept or repeats one that was, or its number is refused, or memory was wanted
pub record KeepsEvent {A : Type 0} (event : Event) (kept kept' : List Event) (answer : Result A LogStop) : Type 0 where
  pub takes : OnOk answer (TakesEvent kept event (Ok kept'))
  pub before : OnOk answer (AreBefore (event.line + 1) kept')
  pub refused : IfErr answer (λ stop. IsRefusal stop → TakesEvent kept event (Err stop))
  pub no_fault : IsErrOf answer ReadFault → ⊥

-- so it is with events that have their numbers from the first on, one after another
pub record KeepsEvents {A : Type 0} (first : ℕ) (events kept kept' : List Event) (answer : Result A LogStop) : Type 0 where
  pub takes : OnOk answer (InOrder TakesEvent kept (numbered_events first events) (Ok kept'))
  pub before : OnOk answer (AreBefore (first + length events) kept')
  pub refused : IfErr answer (λ stop. IsRefusal stop → InOrder TakesEvent kept (numbered_events first events) (Err stop))
  pub no_fault : IsErrOf answer ReadFault → ⊥

-- a line that may be kept behind what is kept
pub record IsLineNext (line : Line) (place : Place) (kept : List Event) : Type 0 where
  pub short : length line.bytes ≤ longest_line
  pub later : place.line < line.number
  pub room : line.number + (place.extra + (most_items line.bytes - 1)) ≤ 1099511627776
  pub before : AreBefore (place.line + place.extra + 1) kept

-- the line was kept
pub record IsLineKept (line : Line) (place place' : Place) (kept kept' : List Event) : Type 0 where
  pub takes : TakesLine (log_state place.extra kept) (line_value line) (Ok (log_state place'.extra kept'))
  pub number : place'.line ≡ line.number
  pub extra : place'.extra ≤ place.extra + (most_items line.bytes - 1)
  pub before : AreBefore (place'.line + place'.extra + 1) kept'

-- the line was kept, or a number of its is refused, or memory was wanted
pub record KeepsLine (line : Line) (place : Place) (kept kept' : List Event) (answer : Result Place LogStop) : Type 0 where
  pub whole : IfOk answer (λ after. IsLineKept line place after kept kept')
  pub refused : IfErr answer (λ stop. IsRefusal stop → TakesLine (log_state place.extra kept) (line_value line) (Err stop))
  pub no_fault : IsErrOf answer ReadFault → ⊥

-- lines that may be kept behind what is kept
pub record AreNext (lines : List Line) (place : Place) (kept : List Event) : Type 0 where
  pub short : AreShort (line_values lines)
  pub ordered : AreOrdered place.line place.extra (line_values lines)
  pub before : AreBefore (place.line + place.extra + 1) kept

-- all lines were kept
pub record AreLinesKept (lines : List Line) (place place' : Place) (kept kept' : List Event) : Type 0 where
  pub takes : TakesLines (log_state place.extra kept) (line_values lines) (Ok (log_state place'.extra kept'))
  pub line : place'.line ≡ last_number place.line (line_values lines)
  pub extra : place'.extra ≤ most_extra place.extra (line_values lines)
  pub before : AreBefore (place'.line + place'.extra + 1) kept'

-- all lines were kept, or a number of theirs is refused, or memory was wanted
pub record KeepsLines (lines : List Line) (place : Place) (kept kept' : List Event) (answer : Result Place LogStop) : Type 0 where
  pub all : IfOk answer (λ after. AreLinesKept lines place after kept kept')
  pub refused : IfErr answer (λ stop. IsRefusal stop → TakesLines (log_state place.extra kept) (line_values lines) (Err stop))
  pub no_fault : IsErrOf answer ReadFault → ⊥

-- lines were kept so, and those behind them decoded, or memory was wanted for that
pub record KeepsAndDecodes (lines next : List Line) (place : Place) (kept kept' : List Event) (keeping : Result Place LogStop) (decoded : Result (List Decoded) OutOfMemory) : Type 0 where
  pub keeps : KeepsLines lines place kept kept' keeping
  pub decodes : IfOk decoded (AllZip IsDecodedLine next)

-- lines that may be kept once those in front were
abbrev pub AreNextBehind : List Line → List Line → Place → List Event → Type 0
AreNextBehind front lines place kept = (place' : Place) (kept' : List Event) → AreLinesKept front place place' kept kept' → AreNext lines place' kept'

-- those in front stop the lines, or they were kept, and then these so
abbrev pub KeepsBoth : List Line → List Line → Place → List Event → List Event → Result Place LogStop → Type 0
KeepsBoth front lines place kept kept' answer =
    (IsErr answer × KeepsLines front place kept kept' answer)
    ⊎ ((place' : Place) × (between : List Event) × AreLinesKept front place place' kept between × KeepsLines lines place' between kept' answer)
