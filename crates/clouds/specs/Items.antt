-- Maps whose values are lists.
use Rattle.std.specs.Prelude.{◌≡◌, ◌⊎◌, true, List, [], Option, Some, None, Contains}
use Rattle.std.specs.BTreeMap.{BTreeMap, get}
use Rattle.std.specs.Ordering.{is_eq}
use Rattle.std.specs.declared.cmp.Ordering.{Ordering}

abbrev pub items_of : {X : Type 0} → Option (List X) → List X
items_of None = []
items_of (Some items) = items

-- the items under a key, none where there is no entry
abbrev pub items_at : {K X : Type 0} → (K → K → Ordering) → BTreeMap K (List X) → K → List X
items_at order m key = items_of (get order m key)

-- one item more, under this key
pub record AddsAt {K X : Type 0} (order : K → K → Ordering) (old new : BTreeMap K (List X)) (key : K) (item : X) : Type 0 where
  pub kept : (k : K) (x : X) → Contains (items_at order old k) x → Contains (items_at order new k) x
  pub added : Contains (items_at order new key) item
  pub only : (k : K) (x : X) → Contains (items_at order new k) x → Contains (items_at order old k) x ⊎ ((is_eq (order key k) ≡ true) × (x ≡ item))
