-- What an answer asks of the removals' places: at most one bound for each range.
use Rattle.std.specs.Prelude.{◌≡◌, ◌≢◌, ◌≤◌, ◌+◌, ℕ, max, min, ◌⊎◌, true, false, List, Some, None, AllPairs, Contains, slice_get}
use Rattle.base_types.specs.declared.verdict.claim.Bound.{Bound}
use Rattle.base_types.specs.declared.verdict.claim.Range.{Range}
use Rattle.base_types.specs.declared.kubernetes.key.ObjectKey.{ObjectKey}
use Rattle.history_model.specs.Clouds.{IsClouded}
use Rattle.history_model.specs.Events.{Item, Listing}
use Rattle.history_model.specs.Histories.{History, Version, Removal}
use Rattle.history_model.specs.Right.{IsShown, InScope, IsAmong}
use Rattle.history_model.specs.States.{latest}

abbrev pub SomewhereIn : ℕ → ℕ → (ℕ → Type 0) → Type 0
SomewhereIn low high Holds = (place : ℕ) × (low ≤ place) × (place ≤ high) × Holds place

-- absent whatever is chosen: there is no version yet, or the last one's removal has no later place
abbrev pub IsAbsentAnyway : History → ObjectKey → ℕ → Type 0
IsAbsentAnyway h key place = (latest h.versions key place ≡ None)
    ⊎ ((v : Version) × (removal : Removal) × (latest h.versions key place ≡ Some v) × Contains h.removals removal × (removal.last ≡ v.revision) × (removal.range.high ≤ place))

-- a version of the key with this fact has its revision here; it is present there whatever is chosen
abbrev pub ComesIn : History → ObjectKey → ℕ → ℕ → (Version → Type 0) → Type 0
ComesIn h key low high Holds = (v : Version) × Contains h.versions v × (v.key ≡ key) × (low ≤ v.revision) × (v.revision ≤ high) × Holds v

-- the removal of the version, at its position among the ranges
abbrev pub IsRemovalAt : History → ℕ → Version → Removal → Type 0
IsRemovalAt h position v removal = (slice_get h.removals position ≡ Some removal) × (removal.last ≡ v.revision)

-- the bound under which the version's object is gone at a place, and that under which it is still there
abbrev pub absence_bound : ℕ → Removal → ℕ → Bound
absence_bound position removal place = record { range = position; low = removal.range.low; high = min place removal.range.high }

abbrev pub presence_bound : ℕ → Removal → ℕ → Bound
presence_bound position removal place = record { range = position; low = max (place + 1) removal.range.low; high = removal.range.high }

-- what a list asks of one key: that its item is there, or that the key is rightly lacked
pub data Demand : Type 0 where
  Shows : Item → Demand
  Lacks : ObjectKey → Demand

abbrev pub demand_key : Demand → ObjectKey
demand_key (Shows item) = item.key
demand_key (Lacks key) = key

abbrev pub IsAsked : Listing → Demand → Type 0
IsAsked listing (Shows item) = Contains listing.items item
IsAsked listing (Lacks key) = (listing.whole ≡ true) × InScope listing key × (IsAmong listing.items key → ⊥)

-- the key's latest version, if there is one, fits what is asked where it is present
abbrev pub IsWanted : History → ℕ → Demand → Version → Type 0
IsWanted h number (Shows item) v = IsShown item (Some v) × (h.listable number item.tree ≡ true)
IsWanted h number (Lacks key) v = h.listable number v.tree ≡ false

-- right whatever is chosen
pub data IsFree (h : History) (number : ℕ) (place : ℕ) (d : Demand) : Type 0 where
  clouded : IsClouded h (demand_key d) place → IsFree h number place d
  none_there : (key : ObjectKey) → d ≡ Lacks key → latest h.versions key place ≡ None → IsFree h number place d
  unlisted : (key : ObjectKey) → (v : Version) → d ≡ Lacks key → latest h.versions key place ≡ Some v → h.listable number v.tree ≡ false → IsFree h number place d
  stays : (item : Item) → (v : Version) → d ≡ Shows item → latest h.versions item.key place ≡ Some v → IsWanted h number (Shows item) v
      → ((removal : Removal) → Contains h.removals removal → removal.last ≡ v.revision → ⊥) → IsFree h number place d

-- right exactly under this bound on the range of the key's own removal
pub data IsBounded (h : History) (number : ℕ) (place : ℕ) (d : Demand) (bound : Bound) : Type 0 where
  goes : (key : ObjectKey) → (v : Version) → (position : ℕ) → (removal : Removal) → d ≡ Lacks key → (IsClouded h key place → ⊥)
      → latest h.versions key place ≡ Some v → (h.listable number v.tree ≡ false → ⊥)
      → IsRemovalAt h position v removal → bound ≡ absence_bound position removal place → IsBounded h number place d bound
  remains : (item : Item) → (v : Version) → (position : ℕ) → (removal : Removal) → d ≡ Shows item → (IsClouded h item.key place → ⊥)
      → latest h.versions item.key place ≡ Some v → IsWanted h number (Shows item) v
      → IsRemovalAt h position v removal → bound ≡ presence_bound position removal place → IsBounded h number place d bound

-- wrong whatever is chosen
pub data IsNever (h : History) (number : ℕ) (place : ℕ) (d : Demand) : Type 0 where
  is_there : (key : ObjectKey) → (v : Version) → d ≡ Lacks key → (IsClouded h key place → ⊥) → latest h.versions key place ≡ Some v
      → (h.listable number v.tree ≡ false → ⊥) → ((removal : Removal) → Contains h.removals removal → removal.last ≡ v.revision → ⊥) → IsNever h number place d
  not_there : (item : Item) → d ≡ Shows item → (IsClouded h item.key place → ⊥) → latest h.versions item.key place ≡ None → IsNever h number place d
  another : (item : Item) → (v : Version) → d ≡ Shows item → (IsClouded h item.key place → ⊥) → latest h.versions item.key place ≡ Some v
      → (IsWanted h number (Shows item) v → ⊥) → IsNever h number place d

-- the bounds of a list at its revision: of each key that it asks for none, or one on the key's own range
pub record AreListBounds (h : History) (number : ℕ) (listing : Listing) (place : ℕ) (bounds : List Bound) : Type 0 where
  pub at_revision : place ≡ listing.revision
  pub distinct : AllPairs (λ a b. a.key ≢ b.key) listing.items
  pub sound : (bound : Bound) → Contains bounds bound → (d : Demand) × IsAsked listing d × IsBounded h number place d bound
  pub full : (d : Demand) → IsAsked listing d → IsFree h number place d ⊎ ((bound : Bound) × Contains bounds bound × IsBounded h number place d bound)

-- a bound that some place of its range meets
pub record IsOpen (ranges : List Range) (bound : Bound) : Type 0 where
  pub range : Range
  pub known : slice_get ranges bound.range ≡ Some range
  pub from : range.low ≤ bound.low
  pub to : bound.high ≤ range.high
  pub room : bound.low ≤ bound.high
