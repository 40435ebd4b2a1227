-- The window over the line of revisions, with the writes in it.
use Rattle.std.specs.Prelude.{ℕ, List, [], ◌∷◌, ◌++◌, Option, codes, length, take}
use Rattle.std.specs.List.{flat_map}
use Rattle.audit_event.specs.declared.event.Event.{Event}
use Rattle.base_types.specs.declared.kubernetes.key.ObjectKey.{ObjectKey}
use Rattle.base_types.specs.declared.verdict.placed.WriteLine.{WriteLine}
use Rattle.markup.specs.Limits.{rest_text}
use Rattle.markup.specs.Pieces.{fixed, number, shown}
use Rattle.markup.specs.declared.drawing.Axis.{Axis}
use Rattle.object_past.specs.declared.version.Version.{Version}
use Rattle.log_context.specs.Known.{Known}
use Rattle.finding_picture.specs.Limits.{most_marks, most_segments}
use Rattle.finding_picture.specs.Marks.{mark_text, places_axis}
use Rattle.finding_picture.specs.Objects.{key_on}
use Rattle.finding_picture.specs.Segments.{segments_text, versions_on}
use Rattle.finding_picture.specs.Lasting.{since}
use Rattle.finding_picture.specs.Texts.{band_and_axis, before_places}
use Rattle.finding_picture.specs.declared.finding.Finding.{Finding}
use Rattle.finding_picture.specs.declared.places.TheConstants.{BEHIND_PLACES}

unfoldable pub band_text : Finding → List ℕ
band_text finding = shown (
    fixed before_places ∷ number (length finding.writes.now)
    ∷ fixed (codes " writes, from place ") ∷ number finding.low
    ∷ fixed (codes " to place ") ∷ number finding.high
    ∷ fixed band_and_axis ∷ number finding.low
    ∷ fixed (codes "</text>\n<text x=\"920\" y=\"22\" text-anchor=\"end\">") ∷ number finding.high
    ∷ fixed (codes "</text>\n") ∷ [])

abbrev pub marks_text : List Event → Axis → List WriteLine → List ℕ
marks_text events axis writes = flat_map (mark_text events axis) (take most_marks writes)

-- the first of the writes, and of these versions of the event's object, with how many others there are
unfoldable pub drawing_text : List Event → Axis → Finding → Option ObjectKey → List Version → List ℕ
drawing_text events axis finding key own =
    band_text finding
    ++ (marks_text events axis finding.writes.now
    ++ (segments_text axis key own
    ++ (shown (fixed BEHIND_PLACES.now ∷ [])
    ++ (rest_text most_marks (length finding.writes.now) (codes "Writes that aren't drawn")
    ++ rest_text most_segments (length own) (codes "Versions that aren't drawn")))))

abbrev pub finding_axis : Known → Finding → Axis
finding_axis known finding = places_axis known.versions finding.low finding.high

unfoldable pub places_text : Known → Finding → List ℕ
places_text known finding =
    drawing_text known.events (finding_axis known finding) finding (key_on known.log finding.line)
    (since finding.low (versions_on (finding_axis known finding) known.versions (key_on known.log finding.line)))
