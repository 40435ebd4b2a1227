-- What objects grant in some of their possible states, and in all of them.
use Rattle.std.specs.Prelude.{◌≡◌, ◌<◌, ℕ, Some, Any, slice_get}
use Rattle.base_types.specs.declared.kubernetes.key.ObjectKey.{ObjectKey}
use Rattle.base_types.specs.declared.kubernetes.request.RequestAttrs.{RequestAttrs}
use Rattle.base_types.specs.declared.kubernetes.request.User.{User}
use Rattle.clouds.specs.declared.span.OpaqueSpan.{OpaqueSpan}
use Rattle.rbac_rules.specs.declared.binding.Binding.{Binding}
use Rattle.rbac_rules.specs.Granting.{Grants}
use Rattle.rbac_rules.specs.Matching.{Matches}
use Rattle.rbac_timeline.specs.declared.kind.Kind.{Kind}
use Rattle.rbac_timeline.specs.declared.kind.Kind.TheVariants.{Role, ClusterRole, RoleBinding, ClusterRoleBinding}
use Rattle.rbac_timeline.specs.declared.version.RbacEnd.{RbacEnd}
use Rattle.rbac_timeline.specs.declared.version.RbacVersion.{RbacVersion}
use Rattle.rbac_timeline.specs.declared.way.Way.{Way}
use Rattle.rbac_timeline.specs.declared.way.Way.TheVariants.{Roles, ClusterRoles, ClusterBindings}
use Rattle.rbac_timeline.specs.Choices.{IsKnownKey}
use Rattle.rbac_timeline.specs.Kinds.{IsBindingOf, IsKeyOf, IsReached, IsReachedNameless, kind_of, role_key}
use Rattle.rbac_timeline.specs.Known.{Known}
use Rattle.rbac_timeline.specs.States.{IsEndOf, IsGranted, IsState, Reading, ReadsRules, State}

abbrev pub MayGrant : {X : Type 0} → Reading X → Known → ObjectKey → ℕ → (X → Type 0) → Type 0
MayGrant {X} reads known key place grants = (state : State X) × IsState reads known key place state × IsGranted grants state

abbrev pub MustGrant : {X : Type 0} → Reading X → Known → ObjectKey → ℕ → (X → Type 0) → Type 0
MustGrant {X} reads known key place grants = (state : State X) → IsState reads known key place state → IsGranted grants state

-- the version's object may be there, as far as removals say, and it is there for certain
abbrev pub IsNotGone : Known → ℕ → RbacVersion → Type 0
IsNotGone known place version = (end : RbacEnd) → IsEndOf known.ends version end → place < end.high

abbrev pub IsCertain : Known → ℕ → RbacVersion → Type 0
IsCertain known place version = (end : RbacEnd) → IsEndOf known.ends version end → place < end.low

abbrev pub MayGrantByRole : Known → ObjectKey → ℕ → RequestAttrs → Type 0
MayGrantByRole known key place attrs = MayGrant ReadsRules known key place (λ rules. Grants rules attrs)

abbrev pub MustGrantByRole : Known → ObjectKey → ℕ → RequestAttrs → Type 0
MustGrantByRole known key place attrs = MustGrant ReadsRules known key place (λ rules. Grants rules attrs)

-- the kinds of a way's bindings and roles
abbrev pub bindings_in : Way → Kind
bindings_in Roles = RoleBinding
bindings_in ClusterRoles = RoleBinding
bindings_in ClusterBindings = ClusterRoleBinding

abbrev pub roles_in : Way → Kind
roles_in Roles = Role
roles_in ClusterRoles = ClusterRole
roles_in ClusterBindings = ClusterRole

-- the user is a subject of the binding, and its role is of the way's kind
pub record IsSubject (way : Way) (key : ObjectKey) (who : User) (binding : Binding) : Type 0 where
  pub role_kind : IsKeyOf (roles_in way) (role_key key binding)
  pub matches : Any (λ subject. Matches subject who) binding.subjects

-- a binding of the way's kind that may concern the request
pub record IsWayOf (known : Known) (way : Way) (attrs : RequestAttrs) (key : ObjectKey) : Type 0 where
  pub is_known : IsKnownKey known key
  pub of_kind : IsKeyOf (bindings_in way) key
  pub reached : IsReached key attrs

-- a key's binding may grant, or grants for certain, with the roles of the way at a place
abbrev pub MayGrantByKey : Known → Way → ℕ → ℕ → User → RequestAttrs → ObjectKey → Type 0
MayGrantByKey known way role_place binding_place who attrs key =
    MayGrant (IsBindingOf key) known key binding_place (λ binding. IsSubject way key who binding × MayGrantByRole known (role_key key binding) role_place attrs)

abbrev pub MustGrantByKey : Known → Way → ℕ → ℕ → User → RequestAttrs → ObjectKey → Type 0
MustGrantByKey known way role_place binding_place who attrs key =
    MustGrant (IsBindingOf key) known key binding_place (λ binding. IsSubject way key who binding × MustGrantByRole known (role_key key binding) role_place attrs)

-- one whose name isn't known may be there
pub record MayGrantNameless (known : Known) (way : Way) (binding_place : ℕ) (attrs : RequestAttrs) : Type 0 where
  pub number : ℕ
  pub span : OpaqueSpan
  pub found : slice_get known.spans number ≡ Some span
  pub of_kind : kind_of span.cover.group span.cover.resource ≡ Some (bindings_in way)
  pub reached : IsReachedNameless span.cover attrs
  pub begun : span.low < binding_place

pub data MayGrantInWay (known : Known) (way : Way) (role_place binding_place : ℕ) (who : User) (attrs : RequestAttrs) : Type 0 where
  by_key : (key : ObjectKey) → IsWayOf known way attrs key → MayGrantByKey known way role_place binding_place who attrs key → MayGrantInWay known way role_place binding_place who attrs
  by_create : MayGrantNameless known way binding_place attrs → MayGrantInWay known way role_place binding_place who attrs

pub record MustGrantInWay (known : Known) (way : Way) (role_place binding_place : ℕ) (who : User) (attrs : RequestAttrs) : Type 0 where
  pub key : ObjectKey
  pub way_of : IsWayOf known way attrs key
  pub must : MustGrantByKey known way role_place binding_place who attrs key
