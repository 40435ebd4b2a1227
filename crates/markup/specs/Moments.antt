-- A moment in UTC, as RFC 3339 writes it.
use Rattle.std.specs.Prelude.{ℕ, pos, ◌/◌, ◌%◌, List, ◌++◌, codes, decimal, int_lt, unsigned_abs, if◌then◌else◌}
use Rattle.base_types.specs.declared.kubernetes.revision.Moment.{Moment}
use Rattle.markup.specs.Calendar.{date_of}
use Rattle.markup.specs.declared.calendar.Date.{Date}

-- so many nanoseconds after 1970 begins
abbrev pub moment_at : ℕ → Moment
moment_at nanos = record { 0 = pos nanos }

abbrev pub two_digits : ℕ → List ℕ
two_digits n = decimal (n / 10) ++ decimal (n % 10)

abbrev pub three_digits : ℕ → List ℕ
three_digits n = decimal (n / 100) ++ (decimal (n / 10 % 10) ++ decimal (n % 10))

-- 2026-11-29
abbrev pub date_text : Date → List ℕ
date_text date = decimal date.year ++ (codes "-" ++ (two_digits date.month ++ (codes "-" ++ two_digits date.day)))

-- 01:03:12, of a day's second
abbrev pub clock_text : ℕ → List ℕ
clock_text second = two_digits (second / 3600) ++ (codes ":" ++ (two_digits (second / 60 % 60) ++ (codes ":" ++ two_digits (second % 60))))

-- 000250000, of a second's nanosecond
abbrev pub fraction_text : ℕ → List ℕ
fraction_text nano = three_digits (nano / 1000000) ++ (three_digits (nano / 1000 % 1000) ++ three_digits (nano % 1000))

-- so many nanoseconds after 1970 begins
abbrev pub instant_text : ℕ → List ℕ
instant_text nanos =
    date_text (date_of (nanos / 86400000000000))
    ++ (codes "T" ++ (clock_text (nanos / 1000000000 % 86400)
    ++ (codes "." ++ (fraction_text (nanos % 1000000000) ++ codes "Z"))))

-- A moment before 1970 is told by how far before.
abbrev pub moment_text : Moment → List ℕ
moment_text at =
    if int_lt at.0 (pos 0) then decimal (unsigned_abs at.0) ++ codes " ns before 1970"
    else instant_text (unsigned_abs at.0)
