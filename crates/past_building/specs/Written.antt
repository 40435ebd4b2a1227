-- How versions are found by revision rising: each is judged by the lower ones alone.
use Rattle.std.specs.Prelude.{◌≡◌, ◌≢◌, ◌<◌, ◌≤◌, ℕ, Bool, List, ◌++◌, Option, Some, None, option_and_then, map, slice_get, ◌↔◌, All, AllPairs, Any, Contains}
use Rattle.std.specs.List.{AllZip}
use Rattle.base_types.specs.declared.kubernetes.key.ObjectKey.{ObjectKey}
use Rattle.clouds.specs.declared.span.KeyRevision.{KeyRevision}
use Rattle.history_model.specs.Groups.{Making}
use Rattle.history_model.specs.Histories as past
use Rattle.history_model.specs.Making.{IsEntryBefore, IsLeastFault}
use Rattle.write_groups.specs.Members.{IsGroupOf}
use Rattle.write_groups.specs.Modelled.{HasEvents, event_of, item_of}
use Rattle.write_groups.specs.declared.event.Item.{Item}
use Rattle.write_groups.specs.declared.event.LogEvent.{LogEvent}
use Rattle.write_groups.specs.declared.event.Shown.{Shown}
use Rattle.write_groups.specs.declared.event.Shown.TheVariants.{Made, Removed, Opaque, Saw, SawNone, SawSome, SawOther, Listed, Free, Aside}
use Rattle.write_groups.specs.declared.groups.Group.{Group}
use Rattle.object_past.specs.Modelled.{version_of}
use Rattle.past_building.specs.Modelled.{AreCloudsOf}
use Rattle.past_building.specs.Surrounded.{HasLog, IsJudgedBy}
use Rattle.past_building.specs.declared.maker.JudgedWrite.{JudgedWrite}
use Rattle.object_past.specs.declared.version.Maker.TheVariants.{Snapshot}
use Rattle.object_past.specs.declared.version.Version.{Version}
use Rattle.past_building.specs.declared.versions.Log.{Log}

abbrev pub making_in : ℕ → LogEvent → Shown → Option Making
making_in number event (Made item created) = Some (record { number = number; event = event_of event; item = item_of item; created = created })
making_in number event (Removed key uid) = None
making_in number event (Opaque cover) = None
making_in number event (Saw item) = None
making_in number event (SawNone key) = None
making_in number event (SawSome key) = None
making_in number event (SawOther key) = None
making_in number event (Listed listing) = None
making_in number event Free = None
making_in number event Aside = None

-- the write of this number
abbrev pub making_at : List LogEvent → ℕ → Option Making
making_at events number = option_and_then (λ event. making_in number event event.answer) (slice_get events number)

-- an object of the snapshot as a version
abbrev pub snapshot_version : Item → Version
snapshot_version item = record { key = item.key; revision = item.revision; uid = item.uid; node = item.node; maker = Snapshot }

-- the history is one of the log, its versions' keys and revisions being those that the clouds were built of
pub record IsOfLog (log : Log) (body : ℕ → Option ℕ → Bool) (h : past.History) : Type 0 where
  pub surroundings : HasLog log.windows.now log.events.now log.removed.now h
  pub judged : IsJudgedBy log.clouds.now body h

-- the history's versions below the revision are these
pub record Extends (h : past.History) (done : List Version) (revision : ℕ) : Type 0 where
  pub positive : 0 < revision
  pub later : List past.Version
  pub whole : h.versions ≡ map version_of done ++ later
  pub rising : AllPairs (λ a b. a.revision < b.revision) h.versions
  pub below : All (λ v. v.revision < revision) done
  pub behind : All (λ v. revision ≤ v.revision) later

-- why the write could not have made its revision from the object before it
abbrev pub IsJudgement : past.History → Making → JudgedWrite → Type 0
IsJudgement h m judged = (before : Option past.Version) × IsEntryBefore h m before × IsLeastFault h m before judged.making

-- the write of the number, judged
abbrev pub IsJudgedAt : past.History → List LogEvent → ℕ → JudgedWrite → Type 0
IsJudgedAt h events number judged = (judged.number ≡ number) × ((m : Making) × (making_at events number ≡ Some m) × IsJudgement h m judged)

abbrev pub AreJudged : past.History → List LogEvent → List ℕ → List JudgedWrite → Type 0
AreJudged h events members judged = AllZip (IsJudgedAt h events) members judged

-- the write of the number is of the key, and was answered with the revision
abbrev pub IsAnsweredAt : List LogEvent → ObjectKey → ℕ → ℕ → Type 0
IsAnsweredAt events key revision number = (m : Making) × (making_at events number ≡ Some m) × (m.item.key ≡ key) × (m.item.revision ≡ revision)

-- a group of the history whose writes are judged
pub record IsOfGroup (log : Log) (body : ℕ → Option ℕ → Bool) (group : Group) (judged : List JudgedWrite) (h : past.History) : Type 0 where
  pub all : HasEvents log.events.now h
  pub clouds : AreCloudsOf log.clouds.now h
  pub bodies : h.body ≡ body
  pub grouped : IsGroupOf h group
  pub members : AreJudged h log.events.now group.members judged

-- the writes of all groups are judged
pub record AreAllJudged (h : past.History) (events : List LogEvent) (groups : List Group) (judged : List JudgedWrite) : Type 0 where
  pub sound : All (λ one. IsJudgedAt h events one.number one) judged
  pub full : (group : Group) (number : ℕ) → Contains groups group → Contains group.members number → Any (λ one. one.number ≡ number) judged

-- the slots are the keys and revisions of the versions
abbrev pub AreSlots : List KeyRevision → List Version → Type 0
AreSlots slots versions = (key : ObjectKey) (revision : ℕ)
    → Contains slots (record { key = key; revision = revision }) ↔ Any (λ v. (v.key ≡ key) × (v.revision ≡ revision)) versions

-- no two objects of the snapshot have one revision, and none is above the start
pub record IsSnapshot (start : ℕ) (snapshot : List Item) : Type 0 where
  pub apart : AllPairs (λ a b. a.revision ≢ b.revision) snapshot
  pub below : All (λ item. item.revision ≤ start) snapshot
