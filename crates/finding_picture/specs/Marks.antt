-- The axis of a drawing of places, and the marks on it.
use Rattle.std.specs.Prelude.{ℕ, ◌+◌, ◌-◌, ◌*◌, ◌%◌, ◌==◌, List, [], ◌∷◌, ◌++◌, Option, Some, None, codes, length, max, slice_get, if◌then◌else◌}
use Rattle.audit_event.specs.declared.event.Event.{Event}
use Rattle.base_types.specs.declared.verdict.placed.WriteLine.{WriteLine}
use Rattle.base_types.specs.declared.verdict.placed.WriteLine.TheVariants.{Made, Removed}
use Rattle.markup.specs.Drawing.{position}
use Rattle.markup.specs.Pieces.{fixed, number, told, shown}
use Rattle.markup.specs.declared.drawing.Axis.{Axis}
use Rattle.object_past.specs.declared.version.Version.{Version}
use Rattle.finding_picture.specs.Looking.{user_on}

abbrev pub revision_or_zero : Option Version → ℕ
revision_or_zero None = 0
revision_or_zero (Some version) = version.revision

abbrev pub last_revision : List Version → ℕ
last_revision versions = revision_or_zero (slice_get versions (length versions - 1))

-- A window that ends behind all revisions is drawn up to the last one.
abbrev pub drawn_high : List Version → ℕ → ℕ → ℕ
drawn_high versions low high = if high == 18446744073709551615 then max (last_revision versions) low else high

abbrev pub places_axis : List Version → ℕ → ℕ → Axis
places_axis versions low high = record { low = low; high = drawn_high versions low high; left = 40; width = 880 }

-- a bar that can be seen
abbrev pub bar_width : Axis → ℕ → ℕ → ℕ
bar_width axis low high = max (position axis high - position axis low) 4

-- of a write that made a revision: a tick there
unfoldable pub tick_text : Axis → ℕ → ℕ → List ℕ → List ℕ → List ℕ
tick_text axis revision line key user =
    shown (
    fixed (codes "<line class=\"tick\" x1=\"") ∷ number (position axis revision)
    ∷ fixed (codes "\" y1=\"36\" x2=\"") ∷ number (position axis revision) ∷ fixed (codes "\" y2=\"80\"><title>") ∷ [])
    ++ shown (
    fixed (codes "revision ") ∷ number revision
    ∷ fixed (codes " by line ") ∷ number line
    ∷ fixed (codes ": ") ∷ told key ∷ fixed (codes ", user ") ∷ told user ∷ fixed (codes "</title></line>\n") ∷ [])

-- Of a removal: a bar over its range. Those of three lines behind one another stand below each other.
unfoldable pub range_text : Axis → ℕ → ℕ → ℕ → List ℕ → List ℕ → List ℕ
range_text axis low high line key user =
    shown (
    fixed (codes "<rect class=\"bar\" x=\"") ∷ number (position axis low)
    ∷ fixed (codes "\" y=\"") ∷ number (40 + line % 3 * 13)
    ∷ fixed (codes "\" width=\"") ∷ number (bar_width axis low high) ∷ fixed (codes "\" height=\"9\"><title>") ∷ [])
    ++ shown (
    fixed (codes "removal from ") ∷ number low
    ∷ fixed (codes " to ") ∷ number high
    ∷ fixed (codes " by line ") ∷ number line
    ∷ fixed (codes ": ") ∷ told key ∷ fixed (codes ", user ") ∷ told user ∷ fixed (codes "</title></rect>\n") ∷ [])

-- with who wrote, as the table of the writes says it
unfoldable pub mark_text : List Event → Axis → WriteLine → List ℕ
mark_text events axis (Made revision line key) = tick_text axis revision line key (user_on events line)
mark_text events axis (Removed low high line key) = range_text axis low high line key (user_on events line)
