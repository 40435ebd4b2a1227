-- The lines of events by their numbers.
use Rattle.std.specs.Prelude.{ℕ, List, Option, Some, None, slice_get}
use Rattle.write_groups.specs.declared.event.LogEvent.{LogEvent}

abbrev pub line_or_zero : Option LogEvent → ℕ
line_or_zero None = 0
line_or_zero (Some event) = event.line

-- the line of the event of this number
abbrev pub line_at : List LogEvent → ℕ → ℕ
line_at log number = line_or_zero (slice_get log number)
