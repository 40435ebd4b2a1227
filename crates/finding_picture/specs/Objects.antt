-- What an answer about the event's object would have been, place by place: the object's versions and its removals.
use Rattle.finding_picture.specs.Texts.{before_object, behind_object, no_object}
use Rattle.std.specs.Prelude.{ℕ, ◌==◌, List, [], ◌∷◌, ◌++◌, Option, Some, None, codes, filter, find, length, option_and_then, take}
use Rattle.std.specs.List.{flat_map}
use Rattle.base_types.specs.Keys.{key_spelling, same_key}
use Rattle.base_types.specs.declared.kubernetes.key.ObjectKey.{ObjectKey}
use Rattle.markup.specs.Limits.{rest_text}
use Rattle.markup.specs.Pieces.{fixed, number, told, shown}
use Rattle.object_past.specs.declared.removal.Removal.{Removal}
use Rattle.object_past.specs.declared.version.Maker.{Maker}
use Rattle.object_past.specs.declared.version.Maker.TheVariants as maker
use Rattle.object_past.specs.declared.version.Version.{Version}
use Rattle.log_context.specs.Known.{Known, versions_of}
use Rattle.write_groups.specs.Lines.{line_at}
use Rattle.write_groups.specs.declared.event.LogEvent.{LogEvent}
use Rattle.write_groups.specs.declared.event.Shown.{Shown}
use Rattle.write_groups.specs.declared.event.Shown.TheVariants.{Made, Removed, Opaque, Saw, SawNone, SawSome, SawOther, Listed, Free, Aside}
use Rattle.finding_picture.specs.Limits.{most_rows, most_versions}
use Rattle.finding_picture.specs.Lasting.{since}

-- the object that an answer speaks of, where it is one
abbrev pub answer_key : Shown → Option ObjectKey
answer_key (Made item created) = Some item.key
answer_key (Removed key uid) = Some key
answer_key (Opaque cover) = None
answer_key (Saw item) = Some item.key
answer_key (SawNone key) = Some key
answer_key (SawSome key) = Some key
answer_key (SawOther key) = Some key
answer_key (Listed listing) = None
answer_key Free = None
answer_key Aside = None

-- the event or checkpoint with this line
abbrev pub logged_on : List LogEvent → ℕ → Option LogEvent
logged_on log line = find (λ event. event.line == line) log

abbrev pub key_on : List LogEvent → ℕ → Option ObjectKey
key_on log line = option_and_then (λ event. answer_key event.answer) (logged_on log line)

-- who wrote a version
unfoldable pub maker_text : List LogEvent → Maker → List ℕ
maker_text log maker.Snapshot = shown (fixed (codes "the snapshot") ∷ [])
maker_text log (maker.Event position) = shown (fixed (codes "line ") ∷ number (line_at log position) ∷ fixed (codes " ") ∷ [])
maker_text log maker.Unknown = shown (fixed (codes "an unrecorded write") ∷ [])

unfoldable pub version_row : List LogEvent → Version → List ℕ
version_row log version =
    shown (
    fixed (codes "<tr><td>from ") ∷ number version.revision
    ∷ fixed (codes " on</td><td>its revision ") ∷ number version.revision
    ∷ fixed (codes "</td><td><code>") ∷ told version.uid ∷ fixed (codes "</code></td><td>") ∷ [])
    ++ (maker_text log version.maker
    ++ shown (fixed (codes "</td></tr>\n") ∷ []))

unfoldable pub removal_row : List LogEvent → Removal → List ℕ
removal_row log removal = shown (
    fixed (codes "<tr><td>from a place of ") ∷ number removal.range.low
    ∷ fixed (codes " to ") ∷ number removal.range.high
    ∷ fixed (codes " on</td><td>that it is absent</td><td><code>") ∷ told removal.uid
    ∷ fixed (codes "</code></td><td>line ") ∷ number (line_at log removal.range.event)
    ∷ fixed (codes "</td></tr>\n") ∷ [])

-- the key's removals
abbrev pub removals_of : Known → ObjectKey → List Removal
removals_of known key = filter (λ removal. same_key removal.key key) known.removals

-- the first of the versions that count from the place `low` on, and of the removals, as rows; and how many others there are
unfoldable pub object_rows : List LogEvent → ℕ → List Version → List Removal → List ℕ
object_rows log low versions removals =
    flat_map (version_row log) (take most_versions (since low versions))
    ++ (flat_map (removal_row log) (take most_rows removals)
    ++ (shown (fixed (codes "</table>\n") ∷ [])
    ++ (rest_text (length (since low versions)) (length versions) (codes "Earlier versions that aren't listed")
    ++ (rest_text most_versions (length (since low versions)) (codes "Later versions that aren't listed")
    ++ rest_text most_rows (length removals) (codes "Removals that aren't listed")))))

-- the object's key, before the rows
unfoldable pub object_name : ObjectKey → List ℕ
object_name key = shown (fixed before_object ∷ told (key_spelling key) ∷ fixed behind_object ∷ [])

unfoldable pub object_text : Known → Option ObjectKey → ℕ → List ℕ
object_text known None low = shown (fixed no_object ∷ [])
object_text known (Some key) low =
    object_name key
    ++ object_rows known.log low (versions_of known key) (removals_of known key)

-- of the event with this line, whose window begins at the place `low`
unfoldable pub object_section : Known → ℕ → ℕ → List ℕ
object_section known line low = object_text known (key_on known.log line) low
