-- The kept events, each under what it is kept under.
use Rattle.std.specs.Prelude.{◌≡◌, ℕ, List, ◌++◌, map, Option, Some, None, Result, Ok, Err}
use Rattle.audit_event.specs.declared.event.Event.{Event}
use Rattle.audit_event.specs.declared.fault.Malformed.TheVariants.{M12}
use Rattle.audit_event.specs.Keeping.{SameButLine}
use Rattle.log_sift.specs.declared.answer.LeftCause.{LeftCause}
use Rattle.log_sift.specs.declared.answer.LeftCause.TheVariants.{Rule}
use Rattle.log_sift.specs.declared.answer.Fate.{Fate}
use Rattle.log_sift.specs.declared.recalling.EventIdentity.{EventIdentity}
use Rattle.log_sift.specs.Sift.{SiftsLine}

-- what an event is kept under: one stage of one request
abbrev pub identity_of : Event → EventIdentity
identity_of event = record { audit_id = event.audit_id; stage = event.stage }

abbrev pub entry_of : Event → EventIdentity × Event
entry_of event = (identity_of event, event)

-- these events, each under its identity
abbrev pub entries_of : List Event → List (EventIdentity × Event)
entries_of events = map entry_of events

-- why an event isn't kept behind an earlier one of its request and stage
abbrev pub Compares : Event → Event → Option LeftCause → Type 0
Compares earlier event None = SameButLine earlier event
Compares earlier event (Some cause) = (¬ SameButLine earlier event) × (cause ≡ Rule M12)

-- what a step leaves
abbrev pub Steps : List (EventIdentity × Event) → (Result (List Event) LeftCause → Type 0) → Option LeftCause → Type 0
Steps after Step None = (next : List Event) × (after ≡ entries_of next) × Step (Ok next)
Steps after Step (Some cause) = Step (Err cause)

-- a step from kept events to others, or why it isn't made
pub record Moves (before after : List (EventIdentity × Event)) (Step : List Event → Result (List Event) LeftCause → Type 0) (cause : Option LeftCause) : Type 0 where
  pub more : List (EventIdentity × Event)
  pub grows : after ≡ before ++ more
  pub steps : (kept : List Event) → before ≡ entries_of kept → Steps after (Step kept) cause

-- what becomes of a line behind kept events; others are kept then
abbrev pub SiftsBehind : List (EventIdentity × Event) → List (EventIdentity × Event) → List ℕ → Fate → Type 0
SiftsBehind before after line fate =
    (kept : List Event) → before ≡ entries_of kept → (next : List Event) × (after ≡ entries_of next) × SiftsLine kept line fate next
