-- The unrecorded writes, and from where on they hide which objects.
use Rattle.finding_picture.specs.Texts.{before_hiding, before_own, hiding_columns}
use Rattle.std.specs.Prelude.{ℕ, Bool, true, false, List, [], ◌∷◌, ◌++◌, Option, Some, None, codes, filter, length, take}
use Rattle.std.specs.List.{flat_map}
use Rattle.base_types.specs.declared.kubernetes.key.Cover.{Cover}
use Rattle.base_types.specs.declared.kubernetes.key.CoverName.{CoverName}
use Rattle.base_types.specs.declared.kubernetes.key.CoverName.TheVariants.{Exact, Prefix, Any}
use Rattle.base_types.specs.declared.kubernetes.key.ObjectKey.{ObjectKey}
use Rattle.history_model.specs.Histories.{History}
use Rattle.history_model.specs.Windows.{low_end}
use Rattle.markup.specs.Limits.{rest_text}
use Rattle.markup.specs.Pieces.{fixed, number, told, shown}
use Rattle.rbac_timeline.specs.Hidden.{covers}
use Rattle.log_context.specs.Histories.{history_of}
use Rattle.log_context.specs.Known.{Known}
use Rattle.write_groups.specs.Modelled.{event_of}
use Rattle.write_groups.specs.declared.event.LogEvent.{LogEvent}
use Rattle.write_groups.specs.declared.event.Shown.{Shown}
use Rattle.write_groups.specs.declared.event.Shown.TheVariants.{Made, Removed, Opaque, Saw, SawNone, SawSome, SawOther, Listed, Free, Aside}
use Rattle.finding_picture.specs.Limits.{most_rows}
use Rattle.finding_picture.specs.Objects.{key_on}

unfoldable pub namespace_text : Option (List ℕ) → List ℕ
namespace_text None = shown (fixed (codes "any") ∷ [])
namespace_text (Some namespace) = shown (fixed (codes "<code>") ∷ told namespace ∷ fixed (codes "</code>") ∷ [])

unfoldable pub name_text : CoverName → List ℕ
name_text (Exact name) = shown (fixed (codes "<code>") ∷ told name ∷ fixed (codes "</code>") ∷ [])
name_text (Prefix front) = shown (fixed (codes "each that begins with <code>") ∷ told front ∷ fixed (codes "</code>") ∷ [])
name_text Any = shown (fixed (codes "any") ∷ [])

-- the write of a line, which can't have come before the place `low`
unfoldable pub cover_row : ℕ → ℕ → Cover → List ℕ
cover_row line low cover =
    shown (
    fixed (codes "<tr><td>") ∷ number line
    ∷ fixed (codes "</td><td>behind ") ∷ number low
    ∷ fixed (codes "</td><td><code>") ∷ told cover.group
    ∷ fixed (codes "</code></td><td><code>") ∷ told cover.resource ∷ fixed (codes "</code></td><td>") ∷ [])
    ++ (namespace_text cover.namespace
    ++ (shown (fixed (codes "</td><td>") ∷ [])
    ++ (name_text cover.name
    ++ shown (fixed (codes "</td></tr>\n") ∷ []))))

abbrev pub is_opaque : Shown → Bool
is_opaque (Made item created) = false
is_opaque (Removed key uid) = false
is_opaque (Opaque cover) = true
is_opaque (Saw item) = false
is_opaque (SawNone key) = false
is_opaque (SawSome key) = false
is_opaque (SawOther key) = false
is_opaque (Listed listing) = false
is_opaque Free = false
is_opaque Aside = false

-- a row of the answer of an unrecorded write
abbrev pub hidden_row_of : ℕ → ℕ → Shown → List ℕ
hidden_row_of line low (Made item created) = []
hidden_row_of line low (Removed key uid) = []
hidden_row_of line low (Opaque cover) = cover_row line low cover
hidden_row_of line low (Saw item) = []
hidden_row_of line low (SawNone key) = []
hidden_row_of line low (SawSome key) = []
hidden_row_of line low (SawOther key) = []
hidden_row_of line low (Listed listing) = []
hidden_row_of line low Free = []
hidden_row_of line low Aside = []

unfoldable pub hidden_row : History → LogEvent → List ℕ
hidden_row h event = hidden_row_of event.line (low_end h (event_of event)) event.answer

abbrev pub is_unrecorded : LogEvent → Bool
is_unrecorded event = is_opaque event.answer

-- the unrecorded writes of a log
abbrev pub unrecorded_in : List LogEvent → List LogEvent
unrecorded_in log = filter is_unrecorded log

-- an unrecorded write whose cover takes the key may have changed its object
abbrev pub may_change : ObjectKey → Shown → Bool
may_change key (Made item created) = false
may_change key (Removed of_key uid) = false
may_change key (Opaque cover) = covers cover key
may_change key (Saw item) = false
may_change key (SawNone of_key) = false
may_change key (SawSome of_key) = false
may_change key (SawOther of_key) = false
may_change key (Listed listing) = false
may_change key Free = false
may_change key Aside = false

abbrev pub hides : ObjectKey → LogEvent → Bool
hides key event = may_change key event.answer

-- those of a log that may have changed the object of a key
abbrev pub hiding_in : ObjectKey → List LogEvent → List LogEvent
hiding_in key log = filter (hides key) log

-- the first of them as rows, and how many others there are
unfoldable pub hiding_rows : History → List LogEvent → List ℕ
hiding_rows h writes =
    flat_map (hidden_row h) (take most_rows writes)
    ++ (shown (fixed (codes "</table>\n") ∷ [])
    ++ rest_text most_rows (length writes) (codes "Unrecorded writes that aren't listed"))

-- those that may have changed the event's object, and how many others there are in the log
unfoldable pub own_rows : History → List LogEvent → List LogEvent → List ℕ
own_rows h own all =
    shown (fixed before_own ∷ fixed hiding_columns ∷ [])
    ++ (hiding_rows h own
    ++ rest_text (length own) (length all) (codes "Other unrecorded writes, of other objects alone"))

-- Where the event isn't about a single object, all of the log.
unfoldable pub hiding_text : Known → Option ObjectKey → List ℕ
hiding_text known None =
    shown (fixed before_hiding ∷ fixed hiding_columns ∷ [])
    ++ hiding_rows (history_of known) (unrecorded_in known.log)
hiding_text known (Some key) = own_rows (history_of known) (hiding_in key known.log) (unrecorded_in known.log)

-- of the event with this line
unfoldable pub hiding_section : Known → ℕ → List ℕ
hiding_section known line = hiding_text known (key_on known.log line)
