-- What the line of an event leads to.
use Rattle.std.specs.Prelude.{ℕ, ◌==◌, List, Option, Some, None, codes, find}
use Rattle.audit_event.specs.declared.event.Event.{Event}

-- the event of the log with this line
abbrev pub event_on : List Event → ℕ → Option Event
event_on events line = find (λ event. event.line == line) events

abbrev pub user_of : Option Event → List ℕ
user_of None = codes "-"
user_of (Some event) = event.user.name

-- who wrote, by the line of the write
abbrev pub user_on : List Event → ℕ → List ℕ
user_on events line = user_of (event_on events line)
