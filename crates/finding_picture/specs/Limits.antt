-- How much is drawn and listed. A page has at most 2,000 marks in its drawings, and a table at most 2,000 rows.
use Rattle.std.specs.Prelude.{ℕ}

-- so many writes of the window are drawn at most over the line of revisions
abbrev pub most_marks : ℕ
most_marks = 800

-- so many versions of the event's object are drawn at most below it
abbrev pub most_segments : ℕ
most_segments = 400

-- so many writes of the window are drawn at most over the line of time
abbrev pub most_bars : ℕ
most_bars = 800

-- so many writes of the window are listed at most
abbrev pub most_writes : ℕ
most_writes = 2000

-- so many versions of the event's object are listed at most, in one table with its removals
abbrev pub most_versions : ℕ
most_versions = 1800

-- so many removals, unrecorded writes, and roles and bindings that came or went are listed at most
abbrev pub most_rows : ℕ
most_rows = 200
