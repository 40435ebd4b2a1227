-- What events are judged by.
use Rattle.std.specs.Prelude.{ℕ, ◌+◌, pos, true, false, List, [], ◌∷◌}
use Rattle.std.specs.Ordering.{ordering_then, bool_cmp, int_cmp, nat_cmp}
use Rattle.std.specs.declared.cmp.Ordering.{Ordering}
use Rattle.write_groups.specs.declared.event.LogEvent.{LogEvent}
use Rattle.write_groups.specs.declared.event.Reading.{Reading}
use Rattle.write_groups.specs.declared.event.Reading.TheVariants.{MostRecent, AnyVersion, NotOlderThan, Exactly, Checkpoint}
use Rattle.write_groups.specs.declared.order.Turn.{Turn}

abbrev pub turn_in_log : ℕ → LogEvent → Turn
turn_in_log number event = record { is_checkpoint = false; hi = event.hi; line = event.line; number = number }

abbrev pub turn_behind : ℕ → LogEvent → Turn
turn_behind number event = record { is_checkpoint = true; hi = record { 0 = pos 0 }; line = event.line; number = number }

abbrev pub turn_as : ℕ → LogEvent → Reading → Turn
turn_as number event MostRecent = turn_in_log number event
turn_as number event AnyVersion = turn_in_log number event
turn_as number event (NotOlderThan revision) = turn_in_log number event
turn_as number event (Exactly revision) = turn_in_log number event
turn_as number event (Checkpoint revision) = turn_behind number event

abbrev pub turn_of : ℕ → LogEvent → Turn
turn_of number event = turn_as number event event.reading

-- those in the log first, then by the end of their time, then by line
abbrev pub turn_cmp : Turn → Turn → Ordering
turn_cmp a b = ordering_then (bool_cmp a.is_checkpoint b.is_checkpoint) (ordering_then (int_cmp a.hi.0 b.hi.0) (ordering_then (nat_cmp a.line b.line) (nat_cmp a.number b.number)))

-- the turns of the events from the one of this number on
abbrev pub turns_of : ℕ → List LogEvent → List Turn
turns_of number [] = []
turns_of number (event ∷ events) = turn_of number event ∷ turns_of (number + 1) events
