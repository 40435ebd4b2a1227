-- The next version of each version's key.
use Rattle.std.specs.Prelude.{◌≡◌, ◌<◌, ◌≤◌, ◌-◌, ◌*◌, ◌⊎◌, ℕ, List, Option, Some, None, length, option_and_then, slice_get, Contains}
use Rattle.log_moments.specs.Things.{no_end}
use Rattle.object_past.specs.declared.version.Version.{Version}

-- the next version of v's key, if there is one
abbrev pub IsNextOf : List Version → Version → Option Version → Type 0
IsNextOf versions v None = (w : Version) → Contains versions w → w.key ≡ v.key → w.revision ≤ v.revision
IsNextOf versions v (Some next) = Contains versions next × (next.key ≡ v.key) × (v.revision < next.revision)
    × ((w : Version) → Contains versions w → w.key ≡ v.key → (w.revision ≤ v.revision) ⊎ (next.revision ≤ w.revision))

-- by the versions' positions, the position of the next one
pub record AreNexts (versions : List Version) (nexts : List (Option ℕ)) : Type 0 where
  pub all : length nexts ≡ length versions
  pub each : (i : ℕ) (v : Version) (next : Option ℕ) → slice_get versions i ≡ Some v → slice_get nexts i ≡ Some next
      → IsNextOf versions v (option_and_then (slice_get versions) next)

-- the number of the gap before the next version, or none where there is no next one
abbrev pub number_before : Option Version → ℕ
number_before None = no_end
number_before (Some next) = 2 * next.revision - 1
