-- What `versions` prints: all versions of a key by revision, and behind the last one of each object that was removed the
-- range of its removal.
use Rattle.std.specs.Prelude.{◌≡◌, ◌==◌, ℕ, List, [], ◌∷◌, ◌++◌, Option, Some, None, codes, decimal, find}
use Rattle.std.specs.List.{flat_map}
use Rattle.base_types.specs.Escapes.{escaped}
use Rattle.base_types.specs.declared.kubernetes.key.ObjectKey.{ObjectKey}
use Rattle.object_past.specs.declared.removal.Removal.{Removal}
use Rattle.object_past.specs.declared.version.Version.{Version}
use Rattle.verdict_text.specs.Words.{ended, spaced}
use Rattle.log_context.specs.Known.{Known, versions_of}
use Rattle.write_groups.specs.Lines.{line_at}
use Rattle.write_groups.specs.declared.event.LogEvent.{LogEvent}
use Rattle.history_query.specs.Telling.{IsToldText, IsTracked, who_text}

-- `M UID WHO`
abbrev pub version_text : List LogEvent → Version → List ℕ
version_text log v = ended (spaced (decimal v.revision ∷ escaped v.uid ∷ who_text log v.maker ∷ []))

-- `removed LOW HIGH LINE`
abbrev pub removal_text : List LogEvent → Option Removal → List ℕ
removal_text log None = []
removal_text log (Some removal) =
    ended (spaced (codes "removed" ∷ decimal removal.range.low ∷ decimal removal.range.high ∷ decimal (line_at log removal.range.event) ∷ []))

-- the removal of the object whose last version this is
abbrev pub removal_behind : List Removal → Version → Option Removal
removal_behind removals v = find (λ removal. removal.last == v.revision) removals

abbrev pub version_lines : Known → Version → List ℕ
version_lines known v = version_text known.log v ++ removal_text known.log (removal_behind known.removals v)

abbrev pub versions_text : Known → ObjectKey → List ℕ
versions_text known key = flat_map (version_lines known) (versions_of known key)

abbrev pub IsVersionsText : Known → ObjectKey → List ℕ → Type 0
IsVersionsText known key text = IsToldText (IsTracked known.setup key → ⊥) (λ told. told ≡ versions_text known key) text
