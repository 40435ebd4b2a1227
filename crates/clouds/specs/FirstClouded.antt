-- The first clouded places at or behind the revisions of a key.
use Rattle.std.specs.Prelude.{◌≤◌, ℕ, List, Option, Some, None, Contains}
use Rattle.base_types.specs.declared.kubernetes.key.ObjectKey.{ObjectKey}
use Rattle.clouds.specs.Clouds.{IsClouded}
use Rattle.clouds.specs.FirstPlace.{IsLeastPlace}
use Rattle.clouds.specs.Hiding.{revision_of}
use Rattle.clouds.specs.Latest.{SomeBetween, last_place}
use Rattle.clouds.specs.Writes.{Writes}

-- the least place of the range at which it holds; or none, and then each such place has a later revision at or below it
abbrev pub IsFirstUntilNext : (ℕ → Type 0) → List ℕ → ℕ → ℕ → Option ℕ → Type 0
IsFirstUntilNext holds revisions low high None = (place : ℕ) → low ≤ place → place ≤ high → holds place → SomeBetween revisions low place
IsFirstUntilNext holds revisions low high (Some place) = IsLeastPlace holds low high place

-- one of these places lies between the two, both among them
abbrev pub SomeFirst : List ℕ → ℕ → ℕ → Type 0
SomeFirst firsts revision place = (first : ℕ) × (Contains firsts first) × (revision ≤ first) × (first ≤ place)

-- each is clouded, and each clouded place has one at or below it that isn't below the revision
pub record AreFirstClouded (writes : Writes) (key : ObjectKey) (firsts : List ℕ) : Type 0 where
  pub among : (place : ℕ) → Contains firsts place → IsClouded writes key place
  pub found : (revision place : ℕ) → Contains writes.revisions (revision_of key revision) → revision ≤ place → place ≤ last_place → IsClouded writes key place
      → SomeFirst firsts revision place
