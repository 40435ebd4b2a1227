-- In which states a role or a binding can be at a place.
use Rattle.std.specs.Prelude.{◌≡◌, ◌<◌, ◌≤◌, ℕ, ◌⊎◌, List, Contains}
use Rattle.base_types.specs.declared.kubernetes.key.ObjectKey.{ObjectKey}
use Rattle.clouds.specs.Clouds.{IsClouded}
use Rattle.rbac_rules.specs.declared.binding.Binding.{Binding}
use Rattle.rbac_rules.specs.declared.role.PolicyRule.{PolicyRule}
use Rattle.rbac_timeline.specs.declared.version.RbacContent.{RbacContent}
use Rattle.rbac_timeline.specs.declared.version.RbacContent.TheVariants.{Role}
use Rattle.rbac_timeline.specs.declared.version.RbacEnd.{RbacEnd}
use Rattle.rbac_timeline.specs.declared.version.RbacVersion.{RbacVersion}
use Rattle.rbac_timeline.specs.Kinds.{IsBindingOf}
use Rattle.rbac_timeline.specs.Known.{Known, writes_of}

-- the key's latest version at or below the place
pub record IsLatestVersion (versions : List RbacVersion) (key : ObjectKey) (place : ℕ) (version : RbacVersion) : Type 0 where
  pub known : Contains versions version
  pub of_key : version.key ≡ key
  pub upto : version.revision ≤ place
  pub latest : (other : RbacVersion) → Contains versions other → other.key ≡ key → other.revision ≤ place → other.revision ≤ version.revision

-- the removal of the object whose last version this is
pub record IsEndOf (ends : List RbacEnd) (version : RbacVersion) (end : RbacEnd) : Type 0 where
  pub known : Contains ends end
  pub of_key : end.key ≡ version.key
  pub of_last : end.last ≡ version.revision

-- A removal took place somewhere in its range: before the range's last place the object may still be there, from the
-- first one on it may be gone.
pub record MayBeThere (known : Known) (key : ObjectKey) (place : ℕ) (version : RbacVersion) : Type 0 where
  pub latest : IsLatestVersion known.versions key place version
  pub not_gone : (end : RbacEnd) → IsEndOf known.ends version end → place < end.high

-- each version of the key is above the place
abbrev pub NoneUpto : List RbacVersion → ObjectKey → ℕ → Type 0
NoneUpto versions key place = (version : RbacVersion) → Contains versions version → version.key ≡ key → place < version.revision

pub data MayBeAbsent (known : Known) (key : ObjectKey) (place : ℕ) : Type 0 where
  not_yet : NoneUpto known.versions key place → MayBeAbsent known key place
  gone : (version : RbacVersion) (end : RbacEnd) → IsLatestVersion known.versions key place version → IsEndOf known.ends version end → end.low ≤ place
      → MayBeAbsent known key place

-- A role or a binding: it is absent or grants nothing, grants by what it says, or grants every request, of those that
-- a binding can reach.
pub data State (X : Type 0) : Type 0 where
  Nothing : State X
  By : X → State X
  Everything : State X

-- how what a version holds is read
abbrev pub Reading : Type 0 → Type 1
Reading X = RbacContent → X → Type 0

-- nothing is known of the object, or it may be there and can't be read
abbrev pub IsUnsure : {X : Type 0} → Reading X → Known → ObjectKey → ℕ → Type 0
IsUnsure {X} reads known key place = IsClouded (writes_of known) key place
    ⊎ ((version : RbacVersion) × MayBeThere known key place version × ((x : X) → reads version.content x → ⊥))

-- the states that an object may have at a place
abbrev pub IsState : {X : Type 0} → Reading X → Known → ObjectKey → ℕ → State X → Type 0
IsState reads known key place Nothing = IsUnsure reads known key place ⊎ MayBeAbsent known key place
IsState reads known key place (By x) = (IsClouded (writes_of known) key place → ⊥)
    × ((version : RbacVersion) × MayBeThere known key place version × reads version.content x)
IsState reads known key place Everything = IsUnsure reads known key place

abbrev pub ReadsRules : Reading (List PolicyRule)
ReadsRules content rules = content ≡ Role rules

abbrev pub IsRoleState : Known → ObjectKey → ℕ → State (List PolicyRule) → Type 0
IsRoleState known key place state = IsState ReadsRules known key place state

abbrev pub IsBindingState : Known → ObjectKey → ℕ → State Binding → Type 0
IsBindingState known key place state = IsState (IsBindingOf key) known key place state

-- the state grants, where what is said grants by this
abbrev pub IsGranted : {X : Type 0} → (X → Type 0) → State X → Type 0
IsGranted grants Nothing = ⊥
IsGranted grants (By x) = grants x
IsGranted grants Everything = Unit {0}
