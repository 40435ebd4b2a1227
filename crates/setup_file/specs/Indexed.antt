-- What an index of the resources tells: where each stands, by its group and its type.
use Rattle.std.specs.Prelude.{◌≡◌, ℕ, List, Option, Some, None, drop, slice_get, option_and_then, if◌then◌else◌}
use Rattle.std.specs.BTreeMap.{BTreeMap, get}
use Rattle.std.specs.Cmp.Lexicographic.{slice_cmp}
use Rattle.std.specs.Ordering.{nat_cmp}
use Rattle.setup_file.specs.declared.setup.Tracked.{Tracked}
use Rattle.setup_file.specs.Resources.{is_resource, tracked_as}

-- the place of each type of one group
abbrev pub Places : Type 0
Places = BTreeMap (List ℕ) ℕ

-- the places of each group
abbrev pub Groups : Type 0
Groups = BTreeMap (List ℕ) Places

abbrev pub place_among : List ℕ → Option Places → Option ℕ
place_among resource None = None
place_among resource (Some places) = get (slice_cmp nat_cmp) places resource

abbrev pub place_of : Groups → List ℕ → List ℕ → Option ℕ
place_of groups group resource = place_among resource (get (slice_cmp nat_cmp) groups group)

-- the resource's place is there, and those of the others stay
abbrev pub PutsPlace : Groups → Groups → Tracked → ℕ → Type 0
PutsPlace old new tracked place = (group resource : List ℕ)
    → place_of new group resource ≡ (if is_resource group resource tracked then Some place else place_of old group resource)

-- the index has the first place of each group and type from this place on
abbrev pub AreIndexedFrom : ℕ → Groups → List Tracked → Type 0
AreIndexedFrom from groups resources = (group resource : List ℕ)
    → option_and_then (slice_get resources) (place_of groups group resource) ≡ tracked_as (drop from resources) group resource

abbrev pub AreIndexed : Groups → List Tracked → Type 0
AreIndexed groups resources = (group resource : List ℕ)
    → option_and_then (slice_get resources) (place_of groups group resource) ≡ tracked_as resources group resource
