-- How long a version of a binding may be there, and whom it names.
use Rattle.std.specs.Prelude.{◌≡◌, ◌<◌, ◌≤◌, ◌⊎◌, ℕ, List, [], Option, Some, None, Any, Contains}
use denote.Ref.{Bor}
use Rattle.clouds.specs.Items.{items_at}
use Rattle.clouds.specs.Kept.{text_order}
use Rattle.rbac_rules.specs.declared.binding.Subject.{Subject}
use Rattle.rbac_rules.specs.declared.binding.Subject.TheVariants.{Group, ServiceAccount, User}
use Rattle.rbac_rules.specs.Matching.{IsAccount}
use Rattle.rbac_timeline.specs.declared.begun.Begun.{Begun}
use Rattle.rbac_timeline.specs.declared.reigns.Reign.{Reign}
use Rattle.rbac_timeline.specs.declared.reign_index.ReignIndex.{ReignIndex}
use Rattle.rbac_timeline.specs.declared.version.RbacEnd.{RbacEnd}
use Rattle.rbac_timeline.specs.declared.version.RbacVersion.{RbacVersion}
use Rattle.rbac_timeline.specs.Choices.{IsKnownKey}
use Rattle.rbac_timeline.specs.Kinds.{subjects_of}
use Rattle.rbac_timeline.specs.Known.{Known}
use Rattle.rbac_timeline.specs.States.{IsEndOf, IsLatestVersion}
use Rattle.rbac_timeline.specs.Unsure.{last_place}

-- no place behind the last is one at which the version may be there
abbrev pub LastsUpto : List RbacVersion → List RbacEnd → RbacVersion → ℕ → Type 0
LastsUpto versions ends version last = (place : ℕ) → place ≤ last_place → IsLatestVersion versions version.key place version
    → ((end : RbacEnd) → IsEndOf ends version end → place < end.high) → place ≤ last

abbrev pub reign_of : Begun → Reign
reign_of begun = record { key = begun.version.now.key; first = begun.version.now.revision; last = begun.last }

-- just these versions, each with a place up to which it may be there
pub record AreBegun (versions : List RbacVersion) (ends : List RbacEnd) (all : List Begun) : Type 0 where
  pub known : (begun : Begun) → Contains all begun → Contains versions begun.version.now
  pub last : (begun : Begun) → Contains all begun → LastsUpto versions ends begun.version.now begun.last
  pub full : (version : RbacVersion) → Contains versions version → Any (λ begun. begun.version.now ≡ version) all

-- what a name is: that of a user, or of a group
pub data Side : Type 0 where
  AsUser : Side
  AsGroup : Side

-- the subject means the user of this name, which a service account may be, or the group
abbrev pub Means : Side → Subject → List ℕ → Type 0
Means AsUser (User name) text = name ≡ text
Means AsUser (Group name) text = ⊥
Means AsUser (ServiceAccount namespace name) text = IsAccount text namespace name
Means AsGroup (User name) text = ⊥
Means AsGroup (Group name) text = name ≡ text
Means AsGroup (ServiceAccount namespace name) text = ⊥

-- the reigns under a name
abbrev pub reigns_at : ReignIndex → Side → List ℕ → List Reign
reigns_at index AsUser name = items_at text_order index.users name
reigns_at index AsGroup name = items_at text_order index.groups name

abbrev pub found_reigns : Option (Bor (List Reign)) → List Reign
found_reigns None = []
found_reigns (Some reigns) = reigns.now

-- one reign more, of a version that names these subjects
pub record AddsReigns (old new : ReignIndex) (subjects : List Subject) (reign : Reign) : Type 0 where
  pub kept : (side : Side) (name : List ℕ) (r : Reign) → Contains (reigns_at old side name) r → Contains (reigns_at new side name) r
  pub only : (side : Side) (name : List ℕ) (r : Reign) → Contains (reigns_at new side name) r → Contains (reigns_at old side name) r ⊎ (r ≡ reign)
  pub added : (side : Side) (name : List ℕ) (subject : Subject) → Contains subjects subject → Means side subject name → Contains (reigns_at new side name) reign

-- each version's reign is under the names of the subjects that it names, and no other is
pub record AreReigns (index : ReignIndex) (all : List Begun) : Type 0 where
  pub only : (side : Side) (name : List ℕ) (r : Reign) → Contains (reigns_at index side name) r → Any (λ begun. r ≡ reign_of begun) all
  pub full : (side : Side) (name : List ℕ) (begun : Begun) (subject : Subject) → Contains all begun → Contains (subjects_of begun.version.now.key begun.version.now.content) subject
      → Means side subject name → Contains (reigns_at index side name) (reign_of begun)

-- the reign of a version
pub record IsReignOf (versions : List RbacVersion) (ends : List RbacEnd) (version : RbacVersion) (reign : Reign) : Type 0 where
  pub of_key : reign.key ≡ version.key
  pub first : reign.first ≡ version.revision
  pub last : LastsUpto versions ends version reign.last

-- under each name are reigns of these versions, and those of all that name such a subject
pub record AreReigning (index : ReignIndex) (versions : List RbacVersion) (ends : List RbacEnd) : Type 0 where
  pub known : (side : Side) (name : List ℕ) (reign : Reign) → Contains (reigns_at index side name) reign → Any (λ version. version.key ≡ reign.key) versions
  pub full : (side : Side) (name : List ℕ) (version : RbacVersion) (subject : Subject) → Contains versions version → Contains (subjects_of version.key version.content) subject
      → Means side subject name → Any (IsReignOf versions ends version) (reigns_at index side name)

-- the same of one name
pub record AreReignsOf (known : Known) (names : Subject → Type 0) (reigns : List Reign) : Type 0 where
  pub are_known : (reign : Reign) → Contains reigns reign → IsKnownKey known reign.key
  pub full : (version : RbacVersion) (subject : Subject) → Contains known.versions version → Contains (subjects_of version.key version.content) subject → names subject
      → Any (IsReignOf known.versions known.ends version) reigns
