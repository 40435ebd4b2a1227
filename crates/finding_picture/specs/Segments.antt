-- The versions of the event's object, below the axis of places.
use Rattle.std.specs.Prelude.{ℕ, Bool, ◌+◌, ◌-◌, ◌&&◌, List, [], ◌∷◌, ◌++◌, Option, Some, None, codes, filter, nat_le, take}
use Rattle.std.specs.List.{flat_map}
use Rattle.base_types.specs.Keys.{same_key}
use Rattle.base_types.specs.declared.kubernetes.key.ObjectKey.{ObjectKey}
use Rattle.markup.specs.Drawing.{position}
use Rattle.markup.specs.Pieces.{fixed, number, told, shown}
use Rattle.markup.specs.declared.drawing.Axis.{Axis}
use Rattle.object_past.specs.declared.version.Version.{Version}
use Rattle.finding_picture.specs.Limits.{most_segments}

-- up to the end of the axis
abbrev pub segment_width : Axis → ℕ → ℕ
segment_width axis revision = axis.left + axis.width - position axis revision

-- A version is a box from its revision on; the next one is drawn over it.
unfoldable pub segment_text : Axis → Version → List ℕ
segment_text axis version = shown (
    fixed (codes "<rect class=\"segment\" x=\"") ∷ number (position axis version.revision)
    ∷ fixed (codes "\" y=\"108\" width=\"") ∷ number (segment_width axis version.revision)
    ∷ fixed (codes "\" height=\"18\"><title>from revision ") ∷ number version.revision
    ∷ fixed (codes ": uid ") ∷ told version.uid ∷ fixed (codes "</title></rect>\n") ∷ [])

-- it is one of the object, and comes up to the last place of the axis
abbrev pub is_on_axis : Axis → ObjectKey → Version → Bool
is_on_axis axis key version = same_key version.key key && nat_le version.revision axis.high

-- those of the object that the event is about, where it is about one
abbrev pub versions_on : Axis → List Version → Option ObjectKey → List Version
versions_on axis versions None = []
versions_on axis versions (Some key) = filter (is_on_axis axis key) versions

-- the first of them as boxes
unfoldable pub segments_text : Axis → Option ObjectKey → List Version → List ℕ
segments_text axis None versions = []
segments_text axis (Some key) versions =
    shown (fixed (codes "<text x=\"40\" y=\"102\">versions of the event's object</text>\n") ∷ [])
    ++ flat_map (segment_text axis) (take most_segments versions)
