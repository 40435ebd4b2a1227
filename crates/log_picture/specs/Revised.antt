-- The drawing of the history by revision.
use Rattle.std.specs.Prelude.{ℕ, ◌+◌, ◌-◌, ◌*◌, ◌%◌, max, Bool, true, false, List, [], ◌∷◌, ◌++◌, codes, filter, flat_map}
use Rattle.base_types.specs.Keys.{key_spelling}
use Rattle.base_types.specs.declared.verdict.claim.Range.{Range}
use Rattle.log_picture.specs.Limits.{unrecorded_limit, removal_limit, rest_of, spread, version_limit}
use Rattle.log_picture.specs.Texts.{history_head, unrecorded_head, versions_head}
use Rattle.log_picture.specs.declared.gone.TheConstants.{TABLE_END}
use Rattle.log_picture.specs.declared.revised.UnrecordedWrite.{UnrecordedWrite}
use Rattle.markup.specs.Drawing.{position}
use Rattle.markup.specs.Pieces.{fixed, number, told, shown}
use Rattle.markup.specs.declared.drawing.Axis.{Axis}
use Rattle.object_past.specs.declared.removal.Removal.{Removal}
use Rattle.object_past.specs.declared.version.Maker.{Maker}
use Rattle.object_past.specs.declared.version.Maker.TheVariants.{Snapshot, Event, Unknown}
use Rattle.object_past.specs.declared.version.Version.{Version}
use Rattle.write_groups.specs.Lines.{line_at}
use Rattle.write_groups.specs.declared.event.LogEvent.{LogEvent}

-- a write gave the object this version: it isn't one of the snapshot
abbrev pub is_written : Maker → Bool
is_written Snapshot = false
is_written (Event n) = true
is_written Unknown = true

-- the versions behind the start
abbrev pub written_versions : List Version → List Version
written_versions versions = filter (λ v. is_written v.maker) versions

unfoldable pub tick_text : ℕ → ℕ → List ℕ → List ℕ
tick_text x revision key = shown (
    fixed (codes "<line class=\"tick\" x1=\"") ∷ number x ∷ fixed (codes "\" y1=\"20\" x2=\"") ∷ number x
    ∷ fixed (codes "\" y2=\"44\"><title>Revision ") ∷ number revision ∷ fixed (codes ": ") ∷ told key
    ∷ fixed (codes "</title></line>\n") ∷ [])

-- a tick at the version's revision
abbrev pub version_mark : Axis → Version → List ℕ
version_mark axis v = tick_text (position axis v.revision) v.revision (key_spelling v.key)

abbrev pub bar_width : Axis → ℕ → ℕ → ℕ
bar_width axis low high = max 3 (position axis high - position axis low)

-- Bars stand in one of six rows, so that those of ranges that share places can be told apart.
abbrev pub bar_row : ℕ → ℕ
bar_row n = 62 + n % 6 * 11

-- as far right, down and wide
unfoldable pub rect_text : ℕ → ℕ → ℕ → List ℕ
rect_text x y width = shown (
    fixed (codes "<rect class=\"bar\" x=\"") ∷ number x ∷ fixed (codes "\" y=\"") ∷ number y ∷ fixed (codes "\" width=\"") ∷ number width
    ∷ fixed (codes "\" height=\"8\"><title>Line ") ∷ [])

unfoldable pub range_text : ℕ → ℕ → ℕ → List ℕ → List ℕ
range_text line low high key = shown (
    number line ∷ fixed (codes ": removed at a place from ") ∷ number low ∷ fixed (codes " to ") ∷ number high ∷ fixed (codes ": ") ∷ told key
    ∷ fixed (codes "</title></rect>\n") ∷ [])

abbrev pub bar_text : Axis → Range → List ℕ
bar_text axis range = rect_text (position axis range.low) (bar_row range.event) (bar_width axis range.low range.high)

-- a bar over the removal's range
unfoldable pub removal_mark : Axis → List LogEvent → Removal → List ℕ
removal_mark axis log removal =
    bar_text axis removal.range ++ range_text (line_at log removal.range.event) removal.range.low removal.range.high (key_spelling removal.key)

-- a broken tick at the lowest place of the window of an unrecorded write
unfoldable pub unrecorded_mark : Axis → UnrecordedWrite → List ℕ
unrecorded_mark axis unrecorded = shown (
    fixed (codes "<line class=\"hatched\" x1=\"") ∷ number (position axis unrecorded.low)
    ∷ fixed (codes "\" y1=\"142\" x2=\"") ∷ number (position axis unrecorded.low)
    ∷ fixed (codes "\" y2=\"166\"><title>Line ") ∷ number unrecorded.line
    ∷ fixed (codes ": unrecorded write, from place ") ∷ number unrecorded.low
    ∷ fixed (codes " on</title></line>\n") ∷ [])

-- the axis with the numbers of its ends
unfoldable pub axis_text : Axis → List ℕ
axis_text axis = shown (
    fixed (codes "<line class=\"axis\" x1=\"150\" y1=\"178\" x2=\"930\" y2=\"178\"/>\n<text x=\"150\" y=\"196\">revision ") ∷ number axis.low
    ∷ fixed (codes "</text>\n<text x=\"930\" y=\"196\" text-anchor=\"end\">revision ") ∷ number axis.high
    ∷ fixed (codes "</text>\n</svg>\n</figure>\n") ∷ [])

-- the marks of versions, removals and unrecorded writes, all over the log
unfoldable pub history_marks : Axis → List LogEvent → List Version → List Removal → List UnrecordedWrite → List ℕ
history_marks axis log versions removals unrecorded_writes =
    flat_map (version_mark axis) (spread version_limit versions) ++ flat_map (removal_mark axis log) (spread removal_limit removals)
    ++ flat_map (unrecorded_mark axis) (spread unrecorded_limit unrecorded_writes)

unfoldable pub history_drawing : Axis → List LogEvent → List Version → List Removal → List UnrecordedWrite → List ℕ
history_drawing axis log versions removals unrecorded_writes = history_head ++ history_marks axis log versions removals unrecorded_writes ++ axis_text axis

-- how many aren't drawn
unfoldable pub left_out_text : List Version → List Removal → List UnrecordedWrite → List ℕ
left_out_text versions removals unrecorded_writes =
    rest_of version_limit versions (codes "Versions that aren't drawn")
    ++ rest_of removal_limit removals (codes "Removals that aren't drawn")
    ++ rest_of unrecorded_limit unrecorded_writes (codes "Unrecorded writes that aren't drawn")

-- the line that wrote the version
unfoldable pub maker_text : List LogEvent → Maker → List ℕ
maker_text log Snapshot = codes "there at the start"
maker_text log (Event n) = shown (fixed (codes "line ") ∷ number (line_at log n) ∷ [])
maker_text log Unknown = codes "an unrecorded write"

unfoldable pub version_cells : Version → List ℕ
version_cells v = shown (
    fixed (codes "<tr><td>") ∷ number v.revision ∷ fixed (codes "</td><td>") ∷ told (key_spelling v.key)
    ∷ fixed (codes "</td><td>") ∷ [])

unfoldable pub version_row : List LogEvent → Version → List ℕ
version_row log v = version_cells v ++ maker_text log v.maker ++ codes "</td></tr>\n"

unfoldable pub unrecorded_row : UnrecordedWrite → List ℕ
unrecorded_row unrecorded = shown (
    fixed (codes "<tr><td>") ∷ number unrecorded.line ∷ fixed (codes "</td><td>") ∷ number unrecorded.low
    ∷ fixed (codes "</td></tr>\n") ∷ [])

-- the versions and unrecorded writes that are drawn
unfoldable pub versions_table : List LogEvent → List Version → List ℕ
versions_table log versions = versions_head ++ flat_map (version_row log) (spread version_limit versions) ++ TABLE_END.now

unfoldable pub unrecorded_table : List UnrecordedWrite → List ℕ
unrecorded_table unrecorded_writes = unrecorded_head ++ flat_map unrecorded_row (spread unrecorded_limit unrecorded_writes) ++ TABLE_END.now

unfoldable pub history_text : Axis → List LogEvent → List Version → List Removal → List UnrecordedWrite → List ℕ
history_text axis log versions removals unrecorded_writes =
    history_drawing axis log versions removals unrecorded_writes ++ left_out_text versions removals unrecorded_writes ++ versions_table log versions
    ++ unrecorded_table unrecorded_writes
