-- The objects that recorded writes changed, the most changed first.
use Rattle.std.specs.Prelude.{◌≡◌, ◌<◌, ◌⊎◌, ◌&&◌, ℕ, Bool, true, false, List, [], ◌∷◌, ◌++◌, Option, Some, None, IsSome, All, AllPairs, Any, length, filter, fold, take, codes, flat_map}
use Rattle.std.specs.declared.cmp.Ordering.TheVariants.{Less}
use Rattle.base_types.specs.Keys.{key_spelling, same_key}
use Rattle.base_types.specs.declared.kubernetes.key.ObjectKey.{ObjectKey}
use Rattle.clouds.specs.Kept.{key_order}
use Rattle.log_picture.specs.Limits.{change_limit}
use Rattle.log_picture.specs.Texts.{changes_head}
use Rattle.log_picture.specs.declared.changed.Changed.{Changed}
use Rattle.log_picture.specs.declared.gone.TheConstants.{TABLE_END}
use Rattle.log_picture.specs.declared.tallies.Tally.{Tally}
use Rattle.markup.specs.Limits.{rest_text}
use Rattle.markup.specs.Pieces.{fixed, number, told, shown}
use Rattle.object_past.specs.declared.version.Maker.{Maker}
use Rattle.object_past.specs.declared.version.Maker.TheVariants.{Snapshot, Event, Unknown}
use Rattle.object_past.specs.declared.version.Version.{Version}

-- the log has the write that made the version
abbrev pub is_recorded : Maker → Bool
is_recorded Snapshot = false
is_recorded (Event n) = true
is_recorded Unknown = false

-- a recorded write gave the object this version
abbrev pub is_change_of : ObjectKey → Version → Bool
is_change_of key v = is_recorded v.maker && same_key v.key key

abbrev pub later_revision : ℕ → Version → ℕ
later_revision before v = v.revision

-- how many these versions are, and the revisions of the first and the last of them
abbrev pub tally_of : List Version → Option Tally
tally_of [] = None
tally_of (v ∷ more) = Some (record { count = length (v ∷ more); first = v.revision; last = fold later_revision v.revision more })

-- the same of those versions that recorded writes gave the object; None where they gave it none
abbrev pub tally : List Version → ObjectKey → Option Tally
tally versions key = tally_of (filter (is_change_of key) versions)

abbrev pub tally_in : Changed → Tally
tally_in c = record { count = c.count.0; first = c.first; last = c.last }

-- it has more versions than the other, or as many and the lesser key
abbrev pub IsListedBefore : Changed → Changed → Type 0
IsListedBefore a b = (b.count.0 < a.count.0) ⊎ ((a.count.0 ≡ b.count.0) × (key_order a.key b.key ≡ Less))

-- each object that recorded writes changed, once and with its tally, the most changed first
pub record AreChanges (versions : List Version) (changes : List Changed) : Type 0 where
  pub each : All (λ c. tally versions c.key ≡ Some (tally_in c)) changes
  pub whole : (key : ObjectKey) → IsSome (tally versions key) → Any (λ c. c.key ≡ key) changes
  pub order : AllPairs IsListedBefore changes

unfoldable pub change_text : List ℕ → ℕ → ℕ → ℕ → List ℕ
change_text key count first last = shown (
    fixed (codes "<tr><td>") ∷ told key ∷ fixed (codes "</td><td>") ∷ number count
    ∷ fixed (codes "</td><td>") ∷ number first ∷ fixed (codes "</td><td>") ∷ number last ∷ fixed (codes "</td></tr>\n") ∷ [])

abbrev pub change_row : Changed → List ℕ
change_row c = change_text (key_spelling c.key) c.count.0 c.first c.last

-- the first of them as a table, and how many others there are
unfoldable pub changes_text : List Changed → List ℕ
changes_text changes =
    changes_head ++ flat_map change_row (take change_limit changes) ++ TABLE_END.now
    ++ rest_text change_limit (length changes) (codes "Other objects that changed")
