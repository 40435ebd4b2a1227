-- The event over the line of time, with the writes of its window by their events' receipt and stage.
use Rattle.std.specs.Prelude.{ℕ, pos, ◌+◌, ◌*◌, ◌%◌, List, [], ◌∷◌, ◌++◌, Option, Some, None, codes, int_lt, length, max, min, take, unsigned_abs, if◌then◌else◌}
use Rattle.std.specs.List.{flat_map, fold}
use Rattle.audit_event.specs.declared.event.Event.{Event}
use Rattle.base_types.specs.declared.verdict.placed.WriteLine.{WriteLine}
use Rattle.base_types.specs.declared.verdict.placed.WriteLine.TheVariants.{Made, Removed}
use Rattle.base_types.specs.declared.kubernetes.revision.Moment.{Moment}
use Rattle.markup.specs.Drawing.{position}
use Rattle.markup.specs.Limits.{rest_text}
use Rattle.markup.specs.Moments.{moment_at, moment_text}
use Rattle.markup.specs.Pieces.{fixed, number, shown}
use Rattle.markup.specs.declared.drawing.Axis.{Axis}
use Rattle.finding_picture.specs.Limits.{most_bars}
use Rattle.finding_picture.specs.Looking.{event_on}
use Rattle.finding_picture.specs.Marks.{bar_width}
use Rattle.finding_picture.specs.Texts.{before_times}
use Rattle.finding_picture.specs.declared.times.TheConstants.{BEHIND_TIMES, TIMES_AXIS}

-- in nanoseconds since 1970, as an axis has them
abbrev pub instant : Moment → ℕ
instant at = if int_lt at.0 (pos 0) then 0 else min (unsigned_abs at.0) 18446744073709551615

abbrev pub line_of : WriteLine → ℕ
line_of (Made revision line key) = line
line_of (Removed low high line key) = line

-- the earlier of an instant and the receipt of a write's event
abbrev pub begin_or : ℕ → Option Event → ℕ
begin_or low None = low
begin_or low (Some event) = min low (instant event.received)

-- the later of an instant and the stage of a write's event
abbrev pub end_or : ℕ → Option Event → ℕ
end_or high None = high
end_or high (Some event) = max high (instant event.staged)

abbrev pub earlier : List Event → ℕ → WriteLine → ℕ
earlier events low write = begin_or low (event_on events (line_of write))

abbrev pub later : List Event → ℕ → WriteLine → ℕ
later events high write = end_or high (event_on events (line_of write))

-- from the first receipt to the last stage of the event and of the writes that are drawn
abbrev pub first_instant : List Event → Event → List WriteLine → ℕ
first_instant events event writes = fold (earlier events) (instant event.received) (take most_bars writes)

abbrev pub last_instant : List Event → Event → List WriteLine → ℕ
last_instant events event writes = fold (later events) (instant event.staged) (take most_bars writes)

abbrev pub times_axis : List Event → Event → List WriteLine → Axis
times_axis events event writes =
    record { low = first_instant events event writes; high = last_instant events event writes; left = 40; width = 880 }

unfoldable pub span_text : Event → List ℕ
span_text event = moment_text event.received ++ (shown (fixed (codes " to ") ∷ []) ++ moment_text event.staged)

-- The bars of ten lines behind one another stand below each other.
unfoldable pub bar_text : Axis → ℕ → Option Event → List ℕ
bar_text axis line None = []
bar_text axis line (Some event) =
    shown (
    fixed (codes "<rect class=\"hatched\" x=\"") ∷ number (position axis (instant event.received))
    ∷ fixed (codes "\" y=\"") ∷ number (34 + line % 10 * 12)
    ∷ fixed (codes "\" width=\"") ∷ number (bar_width axis (instant event.received) (instant event.staged))
    ∷ fixed (codes "\" height=\"8\"><title>line ") ∷ number line ∷ fixed (codes ": ") ∷ [])
    ++ (span_text event
    ++ shown (fixed (codes "</title></rect>\n") ∷ []))

abbrev pub write_bar : List Event → Axis → WriteLine → List ℕ
write_bar events axis write = bar_text axis (line_of write) (event_on events (line_of write))

unfoldable pub times_band : Axis → Event → List ℕ
times_band axis event =
    shown (fixed before_times ∷ [])
    ++ (span_text event
    ++ shown (
    fixed (codes "</desc>\n<rect class=\"band\" x=\"") ∷ number (position axis (instant event.received))
    ∷ fixed (codes "\" y=\"30\" width=\"") ∷ number (bar_width axis (instant event.received) (instant event.staged))
    ∷ fixed (codes "\" height=\"124\"><title>the event</title></rect>\n<text x=\"480\" y=\"22\" text-anchor=\"middle\">the event: ") ∷ []))

-- the axis with the moments of its ends
unfoldable pub ends_text : Axis → List ℕ
ends_text axis =
    shown (fixed TIMES_AXIS.now ∷ [])
    ++ (moment_text (moment_at axis.low)
    ++ (shown (fixed (codes "</text>\n<text x=\"920\" y=\"168\" text-anchor=\"end\">") ∷ [])
    ++ (moment_text (moment_at axis.high)
    ++ shown (fixed BEHIND_TIMES.now ∷ []))))

unfoldable pub times_section : List Event → Event → List WriteLine → List ℕ
times_section events event writes =
    times_band (times_axis events event writes) event
    ++ (span_text event
    ++ (shown (fixed (codes "</text>\n") ∷ [])
    ++ (flat_map (write_bar events (times_axis events event writes)) (take most_bars writes)
    ++ (ends_text (times_axis events event writes)
    ++ rest_text most_bars (length writes) (codes "Writes that aren't drawn")))))

-- A checkpoint has no times.
unfoldable pub times_text : List Event → Option Event → List WriteLine → List ℕ
times_text events None writes = []
times_text events (Some event) writes = times_section events event writes
