-- The incarnations of an object (Kubernetes "Object Names and IDs", UIDs).
use Rattle.std.specs.Prelude.{◌≡◌, ◌≢◌, ◌<◌, ◌≤◌, ◌-◌, ◌++◌, ◌∷◌, ℕ, List, [], Option, Some, length, slice_get, slice_set, All, AllPairs, Any}
use Rattle.base_types.specs.declared.kubernetes.key.ObjectKey.{ObjectKey}
use Rattle.object_past.specs.Past.{HasVersionAt, IsRemovalOf, Recorded}
use Rattle.object_past.specs.declared.incarnation.Incarnation.{Incarnation}
use Rattle.object_past.specs.declared.version.Version.{Version}

-- the key's first version behind this revision
pub record IsNext (versions : List Version) (key : ObjectKey) (revision : ℕ) (next : Version) : Type 0 where
  pub of_key : next.key ≡ key
  pub behind : revision < next.revision
  pub first : All (λ v. v.key ≡ key → revision < v.revision → next.revision ≤ v.revision) versions

-- the key's versions from the first to the last, all of one uid; the next one has another
pub record IsIncarnation (past : Recorded) (key : ObjectKey) (i : Incarnation) : Type 0 where
  pub first : HasVersionAt past.versions key i.first
  pub last : HasVersionAt past.versions key i.last
  pub order : i.first ≤ i.last
  pub one_uid : All (λ v. v.key ≡ key → i.first ≤ v.revision → v.revision ≤ i.last → v.uid ≡ i.uid) past.versions
  pub cut : All (λ next. IsNext past.versions key i.last next → next.uid ≢ i.uid) past.versions
  pub range : IsRemovalOf past.removals i.last i.range

-- all incarnations of the key, in order
pub record AreIncarnations (past : Recorded) (key : ObjectKey) (incarnations : List Incarnation) : Type 0 where
  pub rising : AllPairs (λ a b. a.last < b.first) incarnations
  pub each : All (IsIncarnation past key) incarnations
  pub whole : All (λ v. v.key ≡ key → Any (λ i. (i.first ≤ v.revision) × (v.revision ≤ i.last)) incarnations) past.versions

abbrev pub last_of : List Incarnation → Option Incarnation
last_of incarnations = slice_get incarnations (length incarnations - 1)

abbrev pub begun : Version → Option ℕ → Incarnation
begun v range = record { uid = v.uid; first = v.revision; last = v.revision; range = range }

abbrev pub continued : Incarnation → Version → Option ℕ → Incarnation
continued i v range = record { uid = i.uid; first = i.first; last = v.revision; range = range }

abbrev pub HasOtherLast : List Incarnation → Version → Type 0
HasOtherLast incarnations v = (i : Incarnation) → last_of incarnations ≡ Some i → i.uid ≢ v.uid

-- the key's next version goes on with the last incarnation, or begins one
pub data IsExtended (old new : List Incarnation) (v : Version) (range : Option ℕ) : Type 0 where
  continues : (i : Incarnation) → last_of old ≡ Some i → i.uid ≡ v.uid → new ≡ slice_set old (length old - 1) (continued i v range) → IsExtended old new v range
  begins : HasOtherLast old v → new ≡ old ++ begun v range ∷ [] → IsExtended old new v range
