-- The writes that were answered with one revision.
use Rattle.std.specs.Prelude.{◌≡◌, ◌≢◌, ◌<◌, ◌==◌, ℕ, Bool, false, List, [], ◌∷◌, Option, Some, None, if◌then◌else◌, nat_lt, filter, option_and_then, slice_get, IsSome, All, AllPairs, Any, Contains}
use Rattle.std.specs.BTreeMap.{BTreeMap, get}
use Rattle.std.specs.Ordering.{nat_cmp}
use Rattle.base_types.specs.declared.kubernetes.key.ObjectKey.{ObjectKey}
use Rattle.base_types.specs.Keys.{same_key}
use Rattle.write_groups.specs.declared.event.Item.{Item}
use Rattle.write_groups.specs.declared.event.LogEvent.{LogEvent}
use Rattle.write_groups.specs.declared.event.Shown.{Shown}
use Rattle.write_groups.specs.declared.event.Shown.TheVariants.{Made, Removed, Opaque, Saw, SawNone, SawSome, SawOther, Listed, Free, Aside}
use Rattle.write_groups.specs.declared.groups.Group.{Group}

abbrev pub item_in : Shown → Option Item
item_in (Made item created) = Some item
item_in (Removed key uid) = None
item_in (Opaque cover) = None
item_in (Saw item) = None
item_in (SawNone key) = None
item_in (SawSome key) = None
item_in (SawOther key) = None
item_in (Listed listing) = None
item_in Free = None
item_in Aside = None

-- the object that a write was answered with
abbrev pub made_item : LogEvent → Option Item
made_item event = item_in event.answer

-- the object that the write of this number was answered with
abbrev pub item_at : List LogEvent → ℕ → Option Item
item_at events number = option_and_then made_item (slice_get events number)

abbrev pub if_above : ℕ → ℕ → Option ℕ
if_above start revision = if nat_lt start revision then Some revision else None

-- the revision above the start that a write was answered with
abbrev pub revision_above : ℕ → List LogEvent → ℕ → Option ℕ
revision_above start events number = option_and_then (λ item. if_above start item.revision) (item_at events number)

abbrev pub is_this : ℕ → Option ℕ → Bool
is_this revision None = false
is_this revision (Some found) = found == revision

-- the writes that were answered with a revision above the start, in order
abbrev pub answered_with : ℕ → List LogEvent → List ℕ → ℕ → List ℕ
answered_with start events order revision = filter (λ number. is_this revision (revision_above start events number)) order

abbrev pub number_if : (revision number other : ℕ) → List ℕ
number_if revision number other = if other == revision then number ∷ [] else []

abbrev pub or_none : Option (List ℕ) → List ℕ
or_none None = []
or_none (Some numbers) = numbers

-- the numbers that are kept at a revision
abbrev pub numbers_at : BTreeMap ℕ (List ℕ) → ℕ → List ℕ
numbers_at made revision = or_none (get nat_cmp made revision)

-- the map has all writes above the start by their revision, those of one revision in order
abbrev pub AreGathered : ℕ → List LogEvent → List ℕ → BTreeMap ℕ (List ℕ) → Type 0
AreGathered start events order made = (revision : ℕ) → numbers_at made revision ≡ answered_with start events order revision

abbrev pub is_item_of : ObjectKey → Option Item → Bool
is_item_of key None = false
is_item_of key (Some item) = same_key item.key key

abbrev pub is_of_key : List LogEvent → ObjectKey → ℕ → Bool
is_of_key events key number = is_item_of key (item_at events number)

abbrev pub members_of : List LogEvent → ObjectKey → List ℕ → List ℕ
members_of events key numbers = filter (is_of_key events key) numbers

-- there is at least one number, and each is that of a write
abbrev pub AreWrites : List LogEvent → List ℕ → Type 0
AreWrites events numbers = (numbers ≢ []) × All (λ number. IsSome (item_at events number)) numbers

abbrev pub group_by : List LogEvent → List ℕ → Option Item → Option Group
group_by events numbers None = None
group_by events numbers (Some item) = Some (record { revision = item.revision; key = item.key; members = members_of events item.key numbers })

-- The group among the writes that were answered with one revision: its key is that of the first of them.
abbrev pub group_in : List LogEvent → List ℕ → Option Group
group_in events [] = None
group_in events (number ∷ numbers) = group_by events (number ∷ numbers) (item_at events number)

-- the groups of all revisions above the start
pub record AreGroups (start : ℕ) (events : List LogEvent) (order : List ℕ) (groups : List Group) : Type 0 where
  pub rising : AllPairs (λ a b. a.revision < b.revision) groups
  pub above : All (λ group. start < group.revision) groups
  pub sound : All (λ group. group_in events (answered_with start events order group.revision) ≡ Some group) groups
  pub full : (number revision : ℕ) → Contains order number → revision_above start events number ≡ Some revision → Any (λ group. group.revision ≡ revision) groups
