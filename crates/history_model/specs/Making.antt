-- When a request could have made the revision that it was answered with, or have found it there.
use Rattle.std.specs.Prelude.{◌≡◌, ◌≢◌, ◌<◌, ◌≤◌, ◌-◌, ℕ, ◌⊎◌, true, false, Option, Some, None, IfSome, IsSome, option_map, Contains}
use Rattle.base_types.specs.declared.verdict.claim.Reason.{Reason}
use Rattle.base_types.specs.declared.verdict.claim.Reason.TheVariants.{U3, U4, U5, U6, U7, U8}
use Rattle.base_types.specs.Reasons.{code_number}
use Rattle.history_model.specs.Clouds.{IsClouded}
use Rattle.history_model.specs.Events.{Text, Conditions}
use Rattle.history_model.specs.Groups.{Making}
use Rattle.history_model.specs.Histories.{History, Version, Removal}
use Rattle.history_model.specs.Incarnations.{IsRemovalBehind}
use Rattle.history_model.specs.States.{latest}
use Rattle.history_model.specs.Windows.{lowest, highest}

abbrev pub AreMet : Conditions → ℕ → Text → Type 0
AreMet conditions revision uid = IfSome conditions.revision (λ wanted. wanted ≡ revision) × IfSome conditions.uid (λ wanted. wanted ≡ uid)

-- the object meets the conditions; no object meets the empty conditions alone
abbrev pub MeetsConditions : Conditions → Option Version → Type 0
MeetsConditions conditions None = (conditions.revision ≡ None) × (conditions.uid ≡ None)
MeetsConditions conditions (Some v) = AreMet conditions v.revision v.uid

abbrev pub tree_of : Option Version → Option ℕ
tree_of before = option_map (λ v. v.tree) before

-- the key isn't clouded just before the write
abbrev pub IsClear : History → Making → Type 0
IsClear h m = IsClouded h m.item.key (m.item.revision - 1) → ⊥

abbrev pub IsUsedUid : History → Making → Type 0
IsUsedUid h m = (w : Version) × Contains h.versions w × (w.revision < m.item.revision) × (w.uid ≡ m.item.uid)

-- the object before the write is another one than the write was answered with, or none
abbrev pub IsOtherObject : Making → Option Version → Type 0
IsOtherObject m None = Unit {0}
IsOtherObject m (Some v) = v.uid ≢ m.item.uid

-- the revision isn't one that the write can have made between its moments
abbrev pub IsOutOfReach : (low high revision : ℕ) → Type 0
IsOutOfReach low high revision = (revision ≤ low) ⊎ (high < revision)

-- Why a write could not have made its revision, `before` being the object that was there before it.
pub data HasFault (h : History) (m : Making) (before : Option Version) (code : Reason) : Type 0 where
  outside : code ≡ U3 → IsOutOfReach (lowest h m.event.lo) (highest h m.event.hi) m.item.revision → HasFault h m before code
  present : code ≡ U4 → IsClear h m → m.created ≡ true → IsSome before → HasFault h m before code
  used : code ≡ U5 → m.created ≡ true → IsUsedUid h m → HasFault h m before code
  replaced : code ≡ U6 → IsClear h m → m.created ≡ false → IsOtherObject m before → HasFault h m before code
  unmet : code ≡ U7 → IsClear h m → (MeetsConditions m.event.conditions before → ⊥) → HasFault h m before code
  unasked : code ≡ U8 → IsClear h m → h.body m.number (tree_of before) ≡ false → HasFault h m before code

abbrev pub HasNoFault : History → Making → Option Version → Type 0
HasNoFault h m before = (code : Reason) → HasFault h m before code → ⊥

-- the least code of a fault, or none where there is no fault
abbrev pub IsLeastFault : History → Making → Option Version → Option Reason → Type 0
IsLeastFault h m before None = HasNoFault h m before
IsLeastFault h m before (Some code) = HasFault h m before code × ((other : Reason) → HasFault h m before other → code_number code ≤ code_number other)

-- a creation behind a removed incarnation
pub record IsAnew (h : History) (m : Making) (v : Version) : Type 0 where
  pub created : m.created ≡ true
  pub other_uid : v.uid ≢ m.item.uid
  pub removal : Removal
  pub removed : IsRemovalBehind h v (Some m.item.revision) removal

-- The object before the write: the key's latest version below, but none where that was removed before a
-- creation of another uid.
abbrev pub IsEntryAfter : History → Making → Option Version → Option Version → Type 0
IsEntryAfter h m None before = before ≡ None
IsEntryAfter h m (Some v) before = (IsAnew h m v × (before ≡ None)) ⊎ ((IsAnew h m v → ⊥) × (before ≡ Some v))

abbrev pub IsEntryBefore : History → Making → Option Version → Type 0
IsEntryBefore h m before = IsEntryAfter h m (latest h.versions m.item.key (m.item.revision - 1)) before

-- Why a write could not have found its answer there and left it as it was (an update or patch that changes nothing).
pub data HasFoundFault (h : History) (m : Making) (code : Reason) : Type 0 where
  creates : code ≡ U4 → m.created ≡ true → HasFoundFault h m code
  excludes : code ≡ U7 → (AreMet m.event.conditions m.item.revision m.item.uid → ⊥) → HasFoundFault h m code
  changes : code ≡ U8 → h.body m.number (Some m.item.tree) ≡ false → HasFoundFault h m code

abbrev pub CouldHaveFound : History → Making → Type 0
CouldHaveFound h m = (code : Reason) → HasFoundFault h m code → ⊥
