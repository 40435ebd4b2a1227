-- What can be told of an object at a place.
use Rattle.std.specs.Prelude.{◌≡◌, ◌<◌, ◌≤◌, ◌↔◌, ℕ, true, Option, Some, None, option_map, Contains}
use Rattle.base_types.specs.declared.kubernetes.key.ObjectKey.{ObjectKey}
use Rattle.history_model.specs.Clouds.{IsClouded}
use Rattle.history_model.specs.Histories as past
use Rattle.history_model.specs.Histories.{History}
use Rattle.history_model.specs.States.{latest}
use Rattle.object_past.specs.Modelled.{version_of}
use Rattle.object_past.specs.declared.version.Version.{Version}
use Rattle.log_context.specs.Histories.{history_of}
use Rattle.log_context.specs.Known.{Known}
use Rattle.history_query.specs.declared.sight.ObjectSight.{ObjectSight}
use Rattle.history_query.specs.declared.sight.ObjectSight.TheVariants.{Clouded, Told}

-- the removal of the object whose last version this is
pub record IsRemovalOfLast (h : History) (v : past.Version) (removal : past.Removal) : Type 0 where
  pub known : Contains h.removals removal
  pub of_last : removal.last ≡ v.revision

-- A removal took place somewhere in its range: before the range's last place the object may still be there, from the
-- first one on it may be gone.
pub record ObjectMayBeThere (h : History) (key : ObjectKey) (place : ℕ) (v : past.Version) : Type 0 where
  pub is_latest : latest h.versions key place ≡ Some v
  pub not_gone : (removal : past.Removal) → IsRemovalOfLast h v removal → place < removal.range.high

pub data ObjectMayBeAbsent (h : History) (key : ObjectKey) (place : ℕ) : Type 0 where
  not_yet : latest h.versions key place ≡ None → ObjectMayBeAbsent h key place
  gone : (v : past.Version) (removal : past.Removal) → latest h.versions key place ≡ Some v → IsRemovalOfLast h v removal → removal.range.low ≤ place
      → ObjectMayBeAbsent h key place

-- the version that may be there, if one may
abbrev pub IsPresence : Known → ObjectKey → ℕ → Option Version → Type 0
IsPresence known key place None = (v : past.Version) → ObjectMayBeThere (history_of known) key place v → ⊥
IsPresence known key place (Some v) = Contains known.versions v × ObjectMayBeThere (history_of known) key place (version_of v)

-- nothing is told where unrecorded writes hide the object
abbrev pub IsSight : Known → ObjectKey → ℕ → ObjectSight → Type 0
IsSight known key place Clouded = IsClouded (history_of known) key place
IsSight known key place (Told present absent) = (IsClouded (history_of known) key place → ⊥)
    × IsPresence known key place (option_map (λ v. v.now) present) × (absent ≡ true ↔ ObjectMayBeAbsent (history_of known) key place)
