-- Versions in order, and what is known of their keys and uids.
use Rattle.std.specs.Prelude.{◌≡◌, ◌≢◌, ◌<◌, ◌≤◌, ◌↔◌, ◌⊎◌, ℕ, Bool, List, Option, Some, None, IsTrue, bytes_eq, length, map, slice_get, take, All, AllPairs, Any, Contains}
use Rattle.std.specs.HashMap.{get}
use Rattle.std.specs.HashSet.{contains}
use Rattle.base_types.specs.declared.kubernetes.key.ObjectKey.{ObjectKey}
use Rattle.history_model.specs.Incarnations.{IsFirstWithUid}
use Rattle.object_past.specs.Modelled.{version_of}
use Rattle.past_building.specs.Keyed.{OwnerSet, Positions, UidSet, key_eq}
use Rattle.past_building.specs.Owners.{owner_eq, owner_of}
use Rattle.past_building.specs.declared.grown.Latest.{Latest}
use Rattle.past_building.specs.declared.owner.Owner.{Owner}
use Rattle.object_past.specs.declared.version.Version.{Version}

abbrev pub HasNone : List Version → ObjectKey → Type 0
HasNone versions key = All (λ w. w.key ≢ key) versions

-- v is the key's version of the greatest revision
pub record IsLastOf (versions : List Version) (key : ObjectKey) (v : Version) : Type 0 where
  pub known : Contains versions v
  pub of_key : v.key ≡ key
  pub greatest : All (λ w. w.key ≡ key → w.revision ≤ v.revision) versions

abbrev pub IsFirst : List Version → Version → Type 0
IsFirst versions v = IsFirstWithUid (map version_of versions) (version_of v)

-- whether the version goes on with the incarnation of its key's latest version, and whether that is the first with its uid
abbrev pub IsContinued : List Version → Version → Option Bool → Type 0
IsContinued versions version None = (v : Version) → IsLastOf versions version.key v → v.uid ≢ version.uid
IsContinued versions version (Some is_first) = (v : Version) × IsLastOf versions version.key v × (v.uid ≡ version.uid) × (IsTrue is_first ↔ IsFirst versions v)

-- the position is that of the key's latest version
abbrev pub IsLastAt : List Version → ObjectKey → Option ℕ → Type 0
IsLastAt versions key None = HasNone versions key
IsLastAt versions key (Some position) = (v : Version) × (slice_get versions position ≡ Some v) × IsLastOf versions key v

-- of each version, whether its incarnation is the first of its key with its uid
pub record AreFlagged (versions : List Version) (firsts : List Bool) : Type 0 where
  pub all : length firsts ≡ length versions
  pub each : (position : ℕ) (v : Version) (is_first : Bool) → slice_get versions position ≡ Some v → slice_get firsts position ≡ Some is_first
      → IsTrue is_first ↔ IsFirst versions v

-- of each version, the position of its key's version before it
pub record AreLinked (versions : List Version) (earlier : List (Option ℕ)) : Type 0 where
  pub all : length earlier ≡ length versions
  pub each : (position : ℕ) (v : Version) (before : Option ℕ) → slice_get versions position ≡ Some v → slice_get earlier position ≡ Some before
      → IsLastAt (take position versions) v.key before

pub record AreVersionsKept (versions : List Version) (firsts : List Bool) (earlier : List (Option ℕ)) (last : Positions) (owners : OwnerSet) (uids : UidSet) : Type 0 where
  pub rising : AllPairs (λ a b. a.revision < b.revision) versions
  pub flagged : AreFlagged versions firsts
  pub linked : AreLinked versions earlier
  pub last_of : (key : ObjectKey) → IsLastAt versions key (get key_eq last key)
  pub owned : (owner : Owner) → IsTrue (contains owner_eq owners owner) ↔ Any (λ v. owner_of v ≡ owner) versions
  pub used : (uid : List ℕ) → IsTrue (contains bytes_eq uids uid) ↔ Any (λ v. v.uid ≡ uid) versions

-- the uids of the set, and one more
abbrev pub AddsUid : (old new : UidSet) → List ℕ → Type 0
AddsUid old new uid = (other : List ℕ) → IsTrue (contains bytes_eq new other) ↔ ((uid ≡ other) ⊎ IsTrue (contains bytes_eq old other))

-- the key's latest version, and whether its incarnation is the first with its uid
abbrev pub IsLatestIn : List Version → ObjectKey → Option Latest → Type 0
IsLatestIn versions key None = HasNone versions key
IsLatestIn versions key (Some latest) = IsLastOf versions key latest.version.now × (IsTrue latest.is_first ↔ IsFirst versions latest.version.now)
