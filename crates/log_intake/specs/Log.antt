-- What a log reads as. Its lines and their items take numbers one after another, and their events are kept, up to the
-- first number that is refused.
use Rattle.std.specs.Prelude.{◌≡◌, ℕ, ◌+◌, ◌-◌, ◌^◌, ◌<◌, ◌≤◌, ◌⊎◌, List, [], ◌∷◌, ◌++◌, length, take, Option, Some, None, Result, Ok, Err, All, if◌then◌else◌, nat_le, refl}
use Rattle.line_reader.specs.Lines.{NumberedLine, longest_line, whole_lines, rest_of, lines_from, numbered}
use Rattle.audit_event.specs.declared.event.Event.{Event}
use Rattle.audit_event.specs.declared.fault.Malformed.TheVariants.{M12}
use Rattle.audit_event.specs.Keeping.{AreOfOneStage, SameButLine, WasKept}
use Rattle.batch_decode.specs.declared.decoded.Decoded.{Decoded}
use Rattle.batch_decode.specs.declared.decoded.ItemFault.{ItemFault}
use Rattle.batch_decode.specs.Batches.{IsDecoded}
use Rattle.log_intake.specs.declared.stop.LogStop.{LogStop}
use Rattle.log_intake.specs.declared.stop.LogStop.TheVariants.{Malformed, LineTooLong, TooManyEvents, TooLong}
use Rattle.log_intake.specs.Steps.{InOrder}

-- so many bytes of a log are read
unfoldable pub most_input : ℕ
most_input = 2 ^ 40

pub most_input_is : most_input ≡ 2 ^ 40
unfolding most_input
most_input_is = refl

-- so many events are kept
abbrev pub most_events : ℕ
most_events = 4194304

-- what was read of a log
pub record LogState : Type 0 where
  -- the numbers that lists took beyond one for each line
  pub extra : ℕ
  pub kept : List Event

abbrev pub log_state : ℕ → List Event → LogState
log_state extra kept = record { extra = extra; kept = kept }

abbrev pub nothing_read : LogState
nothing_read = log_state 0 []

-- no kept event is of its request and stage
abbrev pub IsNew : List Event → Event → Type 0
IsNew kept event = All (λ other. ¬ AreOfOneStage other event) kept

-- it is equal in all but the line to the kept event of its request and stage
abbrev pub Repeats : List Event → Event → Type 0
Repeats kept event = (earlier : Event) × WasKept kept event earlier × SameButLine earlier event

abbrev pub Differs : List Event → Event → Type 0
Differs kept event = (earlier : Event) × WasKept kept event earlier × (¬ SameButLine earlier event)

-- a new event is kept while there is room, and a repeat is dropped
abbrev pub TakesEvent : List Event → Event → Result (List Event) LogStop → Type 0
TakesEvent kept event (Ok after) =
    (IsNew kept event × (length kept < most_events) × (after ≡ kept ++ event ∷ [])) ⊎ (Repeats kept event × (after ≡ kept))
TakesEvent kept event (Err stop) =
    (Differs kept event × (stop ≡ Malformed event.line M12)) ⊎ (IsNew kept event × (most_events ≤ length kept) × (stop ≡ TooManyEvents))

-- the events of a line, which has its numbers from this one on
abbrev pub numbered_events : ℕ → List Event → List Event
numbered_events number [] = []
numbered_events number (event ∷ events) = record event { line = number } ∷ numbered_events (number + 1) events

abbrev pub unless_fault : ℕ → Option ItemFault → LogState → Result LogState LogStop
unless_fault first None state = Ok state
unless_fault first (Some fault) state = Err (Malformed (first + fault.index) fault.code)

-- behind the events of a line comes its fault, if it has one
abbrev pub behind_events : ℕ → Decoded → ℕ → Result (List Event) LogStop → Result LogState LogStop
behind_events first decoded extra (Ok kept) = unless_fault first decoded.fault (record { extra = extra + (decoded.taken - 1); kept = kept })
behind_events first decoded extra (Err stop) = Err stop

-- a line that is decoded so, from its first number on
abbrev pub TakesDecoded : LogState → ℕ → Decoded → Result LogState LogStop → Type 0
TakesDecoded state first decoded found =
    (events : Result (List Event) LogStop) × InOrder TakesEvent state.kept (numbered_events first decoded.events) events × (found ≡ behind_events first decoded state.extra events)

-- a line is refused where it is too long, and else its items are taken
abbrev pub TakesLine : LogState → NumberedLine → Result LogState LogStop → Type 0
TakesLine state line found =
    ((longest_line < length line.bytes) × (found ≡ Err LineTooLong))
    ⊎ ((length line.bytes ≤ longest_line) × ((decoded : Decoded) × IsDecoded line.bytes decoded × TakesDecoded state (line.number + state.extra) decoded found))

abbrev pub TakesLines : LogState → List NumberedLine → Result LogState LogStop → Type 0
TakesLines state lines found = InOrder TakesLine state lines found

-- a line that the limit cuts can only be too long
abbrev pub cut_line : List ℕ → List (List ℕ)
cut_line rest = if nat_le (length rest) longest_line then [] else rest ∷ []

abbrev pub cut_lines : List ℕ → List NumberedLine
cut_lines bytes = numbered 0 (whole_lines bytes ++ cut_line (rest_of bytes))

abbrev pub kept_of : Result LogState LogStop → Result (List Event) LogStop
kept_of (Ok state) = Ok state.kept
kept_of (Err stop) = Err stop

-- the byte behind the limit is refused, unless a line is before it
abbrev pub past_limit : Result LogState LogStop → Result (List Event) LogStop
past_limit (Ok state) = Err TooLong
past_limit (Err stop) = Err stop

-- what a log reads as
abbrev pub IsLogRead : List ℕ → Result (List Event) LogStop → Type 0
IsLogRead bytes read =
    ((length bytes ≤ most_input) × ((found : Result LogState LogStop) × TakesLines nothing_read (lines_from 0 bytes) found × (read ≡ kept_of found)))
    ⊎ ((most_input < length bytes) × ((found : Result LogState LogStop) × TakesLines nothing_read (cut_lines (take most_input bytes)) found × (read ≡ past_limit found)))
