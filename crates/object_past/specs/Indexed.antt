-- What is found by each key.
use Rattle.std.specs.Prelude.{◌≡◌, ◌≢◌, ◌<◌, ◌^◌, ◌↔◌, ℕ, ◌⊎◌, List, [], ◌∷◌, ◌++◌, Option, Some, None, IsSome, length, map, option_map, slice_get, Any, Contains}
use Rattle.std.specs.BTreeMap.{BTreeMap, get}
use Rattle.std.specs.List.Sorted.{IsNonDecreasing, IsNonDecreasingBy}
use Rattle.base_types.specs.declared.verdict.claim.Range.{Range}
use Rattle.base_types.specs.declared.kubernetes.key.ObjectKey.{ObjectKey}
use Rattle.clouds.specs.Kept.{key_order}
use Rattle.object_past.specs.Endings.{AreEndings}
use Rattle.object_past.specs.Incarnated.{AreIncarnations, IsExtended}
use Rattle.object_past.specs.Past.{AreEnds, AreRising, HasVersionAt, Recorded}
use Rattle.object_past.specs.Scopes.{AreInOrder}
use Rattle.object_past.specs.declared.ending.Ending.{Ending}
use Rattle.object_past.specs.declared.entry.Entry.{Entry}
use Rattle.object_past.specs.declared.incarnation.Incarnation.{Incarnation}
use Rattle.object_past.specs.declared.removal.Removal.{Removal}
use Rattle.object_past.specs.declared.version.Version.{Version}

-- what is found by one key
pub record FoundByKey : Type 0 where
  pub entries : List Entry
  pub incarnations : List Incarnation
  pub gone : List ℕ

abbrev pub nothing : FoundByKey
nothing = record { entries = []; incarnations = []; gone = [] }

abbrev pub found_in : Option FoundByKey → FoundByKey
found_in None = nothing
found_in (Some found) = found

-- nothing is found by a key without an entry
abbrev pub found_at : BTreeMap ObjectKey FoundByKey → ObjectKey → FoundByKey
found_at by_key key = found_in (get key_order by_key key)

abbrev pub entry_of : ℕ → Version → Entry
entry_of position version = record { revision = version.revision; position = position }

abbrev pub ByRevision : List Entry → Type 0
ByRevision entries = IsNonDecreasingBy (λ entry. entry.revision) entries

-- the key's versions in order
pub record AreEntries (versions : List Version) (key : ObjectKey) (entries : List Entry) : Type 0 where
  pub rising : ByRevision entries
  pub sound : (entry : Entry) → Contains entries entry → (v : Version) × (slice_get versions entry.position ≡ Some v) × (v.key ≡ key) × (v.revision ≡ entry.revision)
  pub full : (v : Version) → Contains versions v → v.key ≡ key → Any (λ entry. entry.revision ≡ v.revision) entries

-- the ends of the ranges of the key's removals, behind these versions
pub record AreGone (versions : List Version) (removals : List Removal) (key : ObjectKey) (gone : List ℕ) : Type 0 where
  pub rising : IsNonDecreasing gone
  pub sound : (place : ℕ) → Contains gone place → (removal : Removal) × Contains removals removal × (removal.key ≡ key) × HasVersionAt versions key removal.last × (removal.range.high ≡ place)
  pub full : (removal : Removal) → Contains removals removal → removal.key ≡ key → HasVersionAt versions key removal.last → Contains gone removal.range.high

pub record IsFoundBy (versions : List Version) (removals : List Removal) (key : ObjectKey) (found : FoundByKey) : Type 0 where
  pub entries : AreEntries versions key found.entries
  pub incarnations : AreIncarnations (record { versions = versions; removals = removals }) key found.incarnations
  pub gone : AreGone versions removals key found.gone

abbrev pub HasVersion : List Version → ObjectKey → Type 0
HasVersion versions key = Any (λ v. v.key ≡ key) versions

-- each key finds what is known of it
pub record AreFound (versions : List Version) (removals : List Removal) (by_key : BTreeMap ObjectKey FoundByKey) : Type 0 where
  pub each : (key : ObjectKey) → IsFoundBy versions removals key (found_at by_key key)
  pub used : (key : ObjectKey) → IsSome (get key_order by_key key) → HasVersion versions key

abbrev pub position_of : Option Ending → Option ℕ
position_of ending = option_map (λ e. e.position) ending

abbrev pub high_of : Option Ending → List ℕ
high_of None = []
high_of (Some ending) = ending.high ∷ []

-- one version more
pub record IsGrown (position : ℕ) (version : Version) (ending : Option Ending) (old new : FoundByKey) : Type 0 where
  pub entries : new.entries ≡ old.entries ++ entry_of position version ∷ []
  pub incarnations : IsExtended old.incarnations new.incarnations version (position_of ending)
  pub gone : new.gone ≡ old.gone ++ high_of ending

-- what is found changes at one key
pub record ChangesAt (old new : BTreeMap ObjectKey FoundByKey) (key : ObjectKey) (Changes : FoundByKey → FoundByKey → Type 0) : Type 0 where
  pub here : Changes (found_at old key) (found_at new key)
  pub others : (other : ObjectKey) → other ≢ key → found_at new other ≡ found_at old other
  pub used : (other : ObjectKey) → IsSome (get key_order new other) → (other ≡ key) ⊎ IsSome (get key_order old other)

-- the keys that have a version, in order, each once
pub record AreKeys (versions : List Version) (keys : List ObjectKey) : Type 0 where
  pub rising : AreInOrder keys
  pub exact : (key : ObjectKey) → Contains keys key ↔ HasVersion versions key

-- all that a past keeps
pub record IsKept (past : Recorded) (ranges : List Range) (endings : List Ending) (keys : List ObjectKey) (by_key : BTreeMap ObjectKey FoundByKey) : Type 0 where
  pub rising : AreRising past.versions
  pub ends : AreEnds past.versions past.removals
  pub ranges_of : ranges ≡ map (λ removal. removal.range) past.removals
  pub few_removals : length past.removals < 2 ^ 32
  pub endings_of : AreEndings past.removals endings
  pub keys_of : AreKeys past.versions keys
  pub found : AreFound past.versions past.removals by_key
