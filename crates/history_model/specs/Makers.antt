-- The versions of all objects: those of the snapshot, and one for each revision above the start that a write
-- was answered with.
use Rattle.std.specs.Prelude.{◌≡◌, ◌<◌, ◌≤◌, ℕ, ◌⊎◌, Option, AllPairs, Contains}
use Rattle.base_types.specs.declared.verdict.claim.Reason.{Reason}
use Rattle.base_types.specs.declared.kubernetes.key.ObjectKey.{ObjectKey}
use Rattle.history_model.specs.Clouds.{MayBeUnrecorded}
use Rattle.history_model.specs.Events.{Item}
use Rattle.history_model.specs.Groups.{Making, IsMaking, IsFirstMaking, IsKeyOf, IsMember}
use Rattle.history_model.specs.Histories.{History, Version, Maker, Snapshot, ByEvent, Unknown}
use Rattle.history_model.specs.Making.{IsEntryBefore, HasNoFault, HasFoundFault}

-- a member of the group that could have made the revision
pub record CouldHaveMade (h : History) (key : ObjectKey) (revision : ℕ) (m : Making) : Type 0 where
  pub member : IsMember h key revision m
  pub before : Option Version
  pub entry : IsEntryBefore h m before
  pub faultless : HasNoFault h m before

-- a member that could have made the revision, and couldn't have found it
pub record MustHaveMade (h : History) (key : ObjectKey) (revision : ℕ) (m : Making) : Type 0 where
  pub made : CouldHaveMade h key revision m
  pub code : Reason
  pub not_found : HasFoundFault h m code

abbrev pub NoMaking : (Making → Type 0) → Type 0
NoMaking Holds = (m : Making) → Holds m → ⊥

-- The maker is the first that must have made the revision, else the first that could have; else nobody whom
-- the log shows, where an unrecorded write may have made it; else the first of the group, which has a fault.
pub data IsMakerOf (h : History) (key : ObjectKey) (revision : ℕ) (maker : Maker) : Type 0 where
  sole : (m : Making) → maker ≡ ByEvent m.number → IsFirstMaking (MustHaveMade h key revision) m → IsMakerOf h key revision maker
  able : (m : Making) → maker ≡ ByEvent m.number → NoMaking (MustHaveMade h key revision) → IsFirstMaking (CouldHaveMade h key revision) m
      → IsMakerOf h key revision maker
  unrecorded : maker ≡ Unknown → NoMaking (CouldHaveMade h key revision) → MayBeUnrecorded h key revision → IsMakerOf h key revision maker
  faulty : (m : Making) → maker ≡ ByEvent m.number → NoMaking (CouldHaveMade h key revision) → (MayBeUnrecorded h key revision → ⊥)
      → IsFirstMaking (IsMember h key revision) m → IsMakerOf h key revision maker

-- the write whose answer shows the version: its maker's, or that of the first of the group
abbrev pub IsShowing : History → ObjectKey → ℕ → Maker → Making → Type 0
IsShowing h key revision Snapshot m = ⊥
IsShowing h key revision (ByEvent number) m = IsMember h key revision m × (m.number ≡ number)
IsShowing h key revision Unknown m = IsFirstMaking (IsMember h key revision) m

pub record IsMadeVersion (h : History) (v : Version) : Type 0 where
  pub above : h.start < v.revision
  pub belongs : IsKeyOf h v.revision v.key
  pub maker : IsMakerOf h v.key v.revision v.maker
  pub m : Making
  pub shown : IsShowing h v.key v.revision v.maker m
  pub uid : v.uid ≡ m.item.uid
  pub tree : v.tree ≡ m.item.tree

abbrev pub item_of : Version → Item
item_of v = record { key = v.key; revision = v.revision; uid = v.uid; tree = v.tree }

pub record IsSnapshotVersion (h : History) (v : Version) : Type 0 where
  pub below : v.revision ≤ h.start
  pub maker : v.maker ≡ Snapshot
  pub listed : Contains h.snapshot (item_of v)

-- the versions of all objects, by revision
pub record AreVersions (h : History) : Type 0 where
  pub rising : AllPairs (λ a b. a.revision < b.revision) h.versions
  pub sound : (v : Version) → Contains h.versions v → IsSnapshotVersion h v ⊎ IsMadeVersion h v
  pub full_snapshot : (item : Item) → Contains h.snapshot item → (v : Version) × Contains h.versions v × (item_of v ≡ item)
  pub full_log : (m : Making) → IsMaking h m → h.start < m.item.revision → (v : Version) × Contains h.versions v × (v.revision ≡ m.item.revision)
