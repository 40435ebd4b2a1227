-- What those who take a setup may rest on.
use Rattle.std.specs.Prelude.{◌≡◌, ◌≢◌, ◌≤◌, ◌↔◌, ◌^◌, ℕ, true, IfSome, List, [], Some, All, AllPairs, length}
use Rattle.base_types.specs.Moments.{IsMoment}
use Rattle.base_types.specs.Values.{InRange}
use Rattle.setup_file.specs.declared.setup.Setup.{Setup}
use Rattle.setup_file.specs.declared.setup.Tracked.{Tracked}
use Rattle.setup_file.specs.declared.setup.SnapshotObject.{SnapshotObject}
use Rattle.setup_file.specs.declared.setup.Checkpoint.{Checkpoint}
use Rattle.setup_file.specs.Resources.{tracked_as}

-- no two resources have one group and resource type, or one group and kind; no resource names a subresource twice
pub record AreApart (resources : List Tracked) : Type 0 where
  pub types : AllPairs (λ a b. ¬ ((a.group ≡ b.group) × (a.resource ≡ b.resource))) resources
  pub kinds : AllPairs (λ a b. ¬ ((a.group ≡ b.group) × (a.kind ≡ b.kind))) resources
  pub subresources : All (λ tracked. AllPairs (λ a b. a.name ≢ b.name) tracked.subresources) resources

-- an object of a tracked resource, with a name and a uid; it has a namespace exactly where its resource is namespaced
pub record IsObject (resources : List Tracked) (object : SnapshotObject) : Type 0 where
  pub tracked : (found : Tracked) × (tracked_as resources object.key.group object.key.resource ≡ Some found)
      × ((found.namespaced ≡ true) ↔ (object.key.namespace ≢ []))
  pub name : object.key.name ≢ []
  pub uid : object.uid ≢ []

-- the objects that were there at the start
pub record AreAtStart (start : ℕ) (resources : List Tracked) (objects : List SnapshotObject) : Type 0 where
  pub tracked : All (IsObject resources) objects
  pub keys : AllPairs (λ a b. a.key ≢ b.key) objects
  pub uids : AllPairs (λ a b. a.uid ≢ b.uid) objects
  pub revisions : AllPairs (λ a b. a.revision ≢ b.revision) objects
  pub begun : All (λ object. object.revision ≤ start) objects

-- each number of their trees is one that can be read
abbrev pub AreInRange : List SnapshotObject → Type 0
AreInRange objects = All (λ object. InRange object.tree) objects

-- a list of a tracked resource that isn't older than the log
pub record IsLaterList (start : ℕ) (resources : List Tracked) (checkpoint : Checkpoint) : Type 0 where
  pub tracked : (found : Tracked) × (tracked_as resources checkpoint.group checkpoint.resource ≡ Some found)
  pub later : start ≤ checkpoint.revision
  pub trees : AreInRange checkpoint.items

pub record IsSound (setup : Setup) : Type 0 where
  pub slack : setup.slack ≤ 10 ^ 18
  pub lag : setup.lag ≤ 10 ^ 18
  pub start_time : IsMoment setup.start_time.0
  pub until : IfSome setup.until (λ moment. IsMoment moment.0)
  pub resources : AreApart setup.resources
  pub snapshot : AreAtStart setup.start setup.resources setup.snapshot
  pub trees : AreInRange setup.snapshot
  -- no more than a text of so many bytes lists
  pub few : length setup.snapshot ≤ 2 ^ 28
  pub checkpoints : All (IsLaterList setup.start setup.resources) setup.checkpoints
