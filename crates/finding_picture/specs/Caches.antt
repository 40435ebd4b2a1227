-- Of a decision: the range of the places of its authorizer's four caches, and the roles and bindings that came and went in it.
use Rattle.std.specs.Prelude.{ℕ, Bool, ◌==◌, ◌&&◌, List, [], ◌∷◌, ◌++◌, codes, filter, is_some, length, nat_le, take, if◌then◌else◌}
use Rattle.std.specs.List.{flat_map}
use Rattle.base_types.specs.Keys.{key_spelling}
use Rattle.base_types.specs.Reasons.{code_number}
use Rattle.markup.specs.Limits.{rest_text}
use Rattle.markup.specs.Pieces.{fixed, number, told, shown}
use Rattle.object_past.specs.declared.removal.Removal.{Removal}
use Rattle.object_past.specs.declared.version.Version.{Version}
use Rattle.rbac_timeline.specs.Kinds.{kind_of_key}
use Rattle.log_context.specs.Known.{Known}
use Rattle.write_groups.specs.Lines.{line_at}
use Rattle.write_groups.specs.declared.event.LogEvent.{LogEvent}
use Rattle.finding_picture.specs.Limits.{most_rows}
use Rattle.finding_picture.specs.Objects.{maker_text}
use Rattle.finding_picture.specs.Texts.{before_caches, behind_range}
use Rattle.finding_picture.specs.declared.finding.Finding.{Finding}

-- a role or binding that came into the caches there
abbrev pub has_come : ℕ → ℕ → Version → Bool
has_come low high version = is_some (kind_of_key version.key) && (nat_le low version.revision && nat_le version.revision high)

-- one that may have gone there
abbrev pub may_have_gone : ℕ → ℕ → Removal → Bool
may_have_gone low high removal = is_some (kind_of_key removal.key) && (nat_le removal.range.low high && nat_le low removal.range.high)

unfoldable pub come_row : List LogEvent → Version → List ℕ
come_row log version =
    shown (
    fixed (codes "<tr><td>revision ") ∷ number version.revision
    ∷ fixed (codes "</td><td><code>") ∷ told (key_spelling version.key) ∷ fixed (codes "</code></td><td>") ∷ [])
    ++ (maker_text log version.maker
    ++ shown (fixed (codes "</td></tr>\n") ∷ []))

unfoldable pub gone_row : List LogEvent → Removal → List ℕ
gone_row log removal = shown (
    fixed (codes "<tr><td>removed from ") ∷ number removal.range.low
    ∷ fixed (codes " to ") ∷ number removal.range.high
    ∷ fixed (codes "</td><td><code>") ∷ told (key_spelling removal.key)
    ∷ fixed (codes "</code></td><td>line ") ∷ number (line_at log removal.range.event)
    ∷ fixed (codes "</td></tr>\n") ∷ [])

-- the first of them as rows, and how many others there are
unfoldable pub caches_rows : List LogEvent → List Version → List Removal → List ℕ
caches_rows log come gone =
    flat_map (come_row log) (take most_rows come)
    ++ (flat_map (gone_row log) (take most_rows gone)
    ++ (shown (fixed (codes "</table>\n") ∷ [])
    ++ (rest_text most_rows (length come) (codes "Roles and bindings that came, but aren't listed")
    ++ rest_text most_rows (length gone) (codes "Roles and bindings that may have gone, but aren't listed"))))

unfoldable pub caches_section : Known → ℕ → ℕ → List ℕ
caches_section known low high =
    shown (
    fixed before_caches ∷ number low ∷ fixed (codes " to ") ∷ number high ∷ fixed behind_range ∷ [])
    ++ caches_rows known.log (filter (has_come low high) known.versions) (filter (may_have_gone low high) known.removals)

-- only decisions have caches
unfoldable pub caches_text : Known → Finding → List ℕ
caches_text known finding = if code_number finding.reason == 14 then caches_section known finding.low finding.high else []
