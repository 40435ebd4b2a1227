-- How versions and removals are kept by key.
use Rattle.std.specs.Prelude.{◌≡◌, ◌≤◌, ℕ, List, Option, Some, None, Any, Contains, if◌then◌else◌}
use Rattle.std.specs.BTreeMap.{BTreeMap}
use Rattle.base_types.specs.declared.kubernetes.key.ObjectKey.{ObjectKey}
use Rattle.base_types.specs.declared.kubernetes.request.RequestAttrs.{RequestAttrs}
use Rattle.base_types.specs.declared.kubernetes.request.User.{User}
use Rattle.clouds.specs.Items.{items_at}
use Rattle.clouds.specs.Kept.{key_order}
use Rattle.clouds.specs.Writes.{Writes}
use Rattle.rbac_rules.specs.Granting.{Grants}
use Rattle.rbac_rules.specs.Matching.{Matches}
use Rattle.rbac_timeline.specs.declared.history.Content.{Content}
use Rattle.rbac_timeline.specs.declared.history.Content.TheVariants.{Rules, Bound as BoundTo, Unreadable as Unread}
use Rattle.rbac_timeline.specs.declared.history.Gap.{Gap}
use Rattle.rbac_timeline.specs.declared.history.Stored.{Stored}
use Rattle.rbac_timeline.specs.declared.version.RbacContent.{RbacContent}
use Rattle.rbac_timeline.specs.declared.version.RbacContent.TheVariants.{Role, Bound, Unreadable}
use Rattle.rbac_timeline.specs.declared.version.RbacEnd.{RbacEnd}
use Rattle.rbac_timeline.specs.declared.version.RbacVersion.{RbacVersion}
use Rattle.rbac_timeline.specs.declared.way.Way.{Way}
use Rattle.rbac_timeline.specs.Extents.{MayGrantByKey, MayGrantByRole, MustGrantByKey, MustGrantByRole, bindings_in, roles_in}
use Rattle.rbac_timeline.specs.Choices.{IsKnownKey}
use Rattle.rbac_timeline.specs.Kinds.{IsBindingOf, IsKeyOf, IsReached, is_cluster_binding, kind_of_key, role_key}
use Rattle.rbac_timeline.specs.declared.index.Index.{Index}
use Rattle.rbac_timeline.specs.declared.nameless.Nameless.{Nameless}
use Rattle.rbac_timeline.specs.declared.reign_index.ReignIndex.{ReignIndex}
use Rattle.rbac_timeline.specs.declared.unsure.Unsure.{Unsure}
use Rattle.rbac_timeline.specs.Indexed.{IsIndexed, mentions_of}
use Rattle.rbac_timeline.specs.Known.{Known, writes_of}
use Rattle.rbac_timeline.specs.Nameless.{AreLows}
use Rattle.rbac_timeline.specs.Reigning.{AreReigning}
use Rattle.rbac_timeline.specs.Unsure.{AreUnsure}
use Rattle.rbac_timeline.specs.Sound.{AreSound}
use Rattle.rbac_timeline.specs.States.{IsEndOf, IsUnsure}

-- what a version holds, a binding with the key of the role that it names
abbrev pub content_of : ObjectKey → RbacContent → Content
content_of key (Role rules) = Rules rules
content_of key (Bound binding) =
    if is_cluster_binding (kind_of_key key) then (if binding.role_is_cluster then BoundTo binding (role_key key binding) else Unread)
    else BoundTo binding (role_key key binding)
content_of key Unreadable = Unread

abbrev pub stored_of : RbacVersion → Stored
stored_of version = record { revision = version.revision; content = content_of version.key version.content }

abbrev pub gap_of : RbacEnd → Gap
gap_of end = record { last = end.last; low = end.low; high = end.high }

-- the latest of the stored versions at or below a place
pub record IsLatestStored (all : List Stored) (place : ℕ) (stored : Stored) : Type 0 where
  pub among : Contains all stored
  pub upto : stored.revision ≤ place
  pub latest : (other : Stored) → Contains all other → other.revision ≤ place → other.revision ≤ stored.revision

-- under each key its versions
pub record AreStored (histories : BTreeMap ObjectKey (List Stored)) (versions : List RbacVersion) : Type 0 where
  pub among : (key : ObjectKey) (stored : Stored) → Contains (items_at key_order histories key) stored
      → (version : RbacVersion) × Contains versions version × (version.key ≡ key) × (stored ≡ stored_of version)
  pub found : (version : RbacVersion) → Contains versions version → Contains (items_at key_order histories version.key) (stored_of version)

-- under each key its removals
pub record AreGaps (gaps : BTreeMap ObjectKey (List Gap)) (ends : List RbacEnd) : Type 0 where
  pub among : (key : ObjectKey) (gap : Gap) → Contains (items_at key_order gaps key) gap
      → (end : RbacEnd) × Contains ends end × (end.key ≡ key) × (gap ≡ gap_of end)
  pub found : (end : RbacEnd) → Contains ends end → Contains (items_at key_order gaps end.key) (gap_of end)

-- the removal behind the version of a key with this revision
abbrev pub IsRemovalOf : List RbacEnd → ObjectKey → ℕ → Option Gap → Type 0
IsRemovalOf ends key last None = (version : RbacVersion) → version.key ≡ key → version.revision ≡ last → (end : RbacEnd) → IsEndOf ends version end → ⊥
IsRemovalOf ends key last (Some gap) = (version : RbacVersion) → version.key ≡ key → version.revision ≡ last → (end : RbacEnd) × IsEndOf ends version end × (gap ≡ gap_of end)

-- what a version of a role stores grants
abbrev pub MayGrantByRules : RequestAttrs → Content → Type 0
MayGrantByRules attrs (Rules rules) = Grants rules attrs
MayGrantByRules attrs (BoundTo binding role) = Unit {0}
MayGrantByRules attrs Unread = Unit {0}

abbrev pub MustGrantByRules : RequestAttrs → Content → Type 0
MustGrantByRules attrs (Rules rules) = Grants rules attrs
MustGrantByRules attrs (BoundTo binding role) = ⊥
MustGrantByRules attrs Unread = ⊥

-- what a stored version of a binding may grant, or grants for certain, where it is there
abbrev pub MayGrantByContent : Known → Way → ℕ → User → RequestAttrs → Content → Type 0
MayGrantByContent known way role_place who attrs (Rules rules) = Unit {0}
MayGrantByContent known way role_place who attrs (BoundTo binding role) =
    IsKeyOf (roles_in way) role × Any (λ subject. Matches subject who) binding.subjects × MayGrantByRole known role role_place attrs
MayGrantByContent known way role_place who attrs Unread = Unit {0}

abbrev pub MustGrantByContent : Known → Way → ℕ → User → RequestAttrs → Content → Type 0
MustGrantByContent known way role_place who attrs (Rules rules) = ⊥
MustGrantByContent known way role_place who attrs (BoundTo binding role) =
    IsKeyOf (roles_in way) role × Any (λ subject. Matches subject who) binding.subjects × MustGrantByRole known role role_place attrs
MustGrantByContent known way role_place who attrs Unread = ⊥

-- the same of a key, where it is of the way's kind and may concern the request
abbrev pub MayGrantByListed : Known → Way → ℕ → ℕ → User → RequestAttrs → ObjectKey → Type 0
MayGrantByListed known way role_place binding_place who attrs key =
    IsKeyOf (bindings_in way) key × IsReached key attrs × MayGrantByKey known way role_place binding_place who attrs key

abbrev pub MustGrantByListed : Known → Way → ℕ → ℕ → User → RequestAttrs → ObjectKey → Type 0
MustGrantByListed known way role_place binding_place who attrs key =
    IsKeyOf (bindings_in way) key × IsReached key attrs × MustGrantByKey known way role_place binding_place who attrs key

-- some of these bindings may grant
abbrev pub MayGrantOf : Known → (ObjectKey → Type 0) → Way → ℕ → ℕ → User → RequestAttrs → Type 0
MayGrantOf known among way role_place binding_place who attrs = (key : ObjectKey) × among key × MayGrantByListed known way role_place binding_place who attrs key

-- a binding of which nothing is known at the place
abbrev pub IsKnownUnsure : Known → ℕ → ObjectKey → Type 0
IsKnownUnsure known place key = IsKnownKey known key × IsUnsure (IsBindingOf key) known key place

-- what a timeline keeps is of what is known
pub record AreBindingsKept (known : Known) (histories : BTreeMap ObjectKey (List Stored)) (gaps : BTreeMap ObjectKey (List Gap)) (clouds : Writes)
    (index : Index) (nameless : Nameless) (unsure : Unsure) (reigns : ReignIndex) : Type 0 where
  pub sound : AreSound known.versions known.ends
  pub stored : AreStored histories known.versions
  pub removals : AreGaps gaps known.ends
  pub clouds_of : clouds ≡ writes_of known
  pub indexed : IsIndexed index (mentions_of known.versions)
  pub unnamed : AreLows nameless known.spans
  pub unsure_ones : AreUnsure (writes_of known) known.versions known.spans unsure
  pub reigning : AreReigning reigns known.versions known.ends
