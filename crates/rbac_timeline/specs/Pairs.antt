-- The first of several pairs of places, and the versions between two places.
use Rattle.std.specs.Prelude.{◌≡◌, ◌<◌, ◌≤◌, ℕ, Bool, false, ◌&&◌, List, Option, Some, None, Contains, nat_le, if◌then◌else◌}
use Rattle.base_types.specs.declared.kubernetes.key.ObjectKey.{ObjectKey}
use Rattle.rbac_timeline.specs.declared.history.Stored.{Stored}
use Rattle.rbac_timeline.specs.declared.version.RbacVersion.{RbacVersion}
use Rattle.rbac_timeline.specs.Kept.{stored_of}
use Rattle.rbac_timeline.specs.Searched.{lesser_number}

-- the stored versions above `low` and not above `high`
pub record AreStoredBetween (all : List Stored) (low high : ℕ) (between : List Stored) : Type 0 where
  pub only : (stored : Stored) → Contains between stored → Contains all stored × ((low < stored.revision) × (stored.revision ≤ high))
  pub full : (stored : Stored) → Contains all stored → low < stored.revision → stored.revision ≤ high → Contains between stored

-- those of a key
pub record AreVersionsBetween (versions : List RbacVersion) (key : ObjectKey) (low high : ℕ) (between : List Stored) : Type 0 where
  pub within : (stored : Stored) → Contains between stored → (low < stored.revision) × (stored.revision ≤ high)
  pub full : (version : RbacVersion) → Contains versions version → version.key ≡ key → low < version.revision → version.revision ≤ high → Contains between (stored_of version)

-- the lesser of two pairs, where there are any
abbrev pub earlier_pair : Option (ℕ × ℕ) → Option (ℕ × ℕ) → Option (ℕ × ℕ)
earlier_pair None b = b
earlier_pair (Some a) None = Some a
earlier_pair (Some a) (Some b) = if lesser_number a.0 b.0 (nat_le a.1 b.1) then Some a else Some b

-- no pair of a range that begins at `low` is before this one
abbrev pub is_lowest : ℕ → Option (ℕ × ℕ) → Bool
is_lowest low None = false
is_lowest low (Some pair) = nat_le pair.0 low && nat_le pair.1 low

-- a first place with this second one
abbrev pub pair_with : ℕ → Option ℕ → Option (ℕ × ℕ)
pair_with second None = None
pair_with second (Some first) = Some (first, second)
