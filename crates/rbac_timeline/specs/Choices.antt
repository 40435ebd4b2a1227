-- A choice of one possible state for each role and each binding, and what it allows.
use Rattle.std.specs.Prelude.{◌≡◌, ◌<◌, ℕ, Bool, true, List, Some, Any, Contains, slice_get}
use Rattle.base_types.specs.Covers.{NamesExactly}
use Rattle.base_types.specs.declared.kubernetes.key.ObjectKey.{ObjectKey}
use Rattle.base_types.specs.declared.verdict.placed.Places.{Places}
use Rattle.base_types.specs.declared.kubernetes.request.RequestAttrs.{RequestAttrs}
use Rattle.base_types.specs.declared.kubernetes.request.User.{User}
use Rattle.clouds.specs.declared.span.OpaqueSpan.{OpaqueSpan}
use Rattle.rbac_rules.specs.Granting.{Grants}
use Rattle.rbac_rules.specs.Matching.{Matches}
use Rattle.rbac_timeline.specs.declared.version.RbacVersion.{RbacVersion}
use Rattle.rbac_timeline.specs.declared.kind.Kind.TheVariants.{Role, ClusterRole, RoleBinding, ClusterRoleBinding}
use Rattle.rbac_timeline.specs.Kinds.{IsKeyOf, IsNamelessCreate, IsReached, IsReachedNameless, role_key}
use Rattle.rbac_timeline.specs.Known.{Known}
use Rattle.rbac_rules.specs.declared.binding.Binding.{Binding}
use Rattle.rbac_rules.specs.declared.role.PolicyRule.{PolicyRule}
use Rattle.rbac_timeline.specs.States.{IsBindingState, IsGranted, IsRoleState, State}

-- The bindings without a known name are told apart by the numbers of their spans: each grants every request that it
-- may reach, or nothing.
pub record Choice : Type 0 where
  pub role : ObjectKey → State (List PolicyRule)
  pub binding : ObjectKey → State Binding
  pub nameless : ℕ → Bool

-- each kind at the place of its own cache
pub record IsChoice (known : Known) (places : Places) (choice : Choice) : Type 0 where
  pub of_roles : (key : ObjectKey) → IsKeyOf Role key → IsRoleState known key places.roles (choice.role key)
  pub of_cluster_roles : (key : ObjectKey) → IsKeyOf ClusterRole key → IsRoleState known key places.cluster_roles (choice.role key)
  pub of_bindings : (key : ObjectKey) → IsKeyOf RoleBinding key → IsBindingState known key places.bindings (choice.binding key)
  pub of_cluster_bindings : (key : ObjectKey) → IsKeyOf ClusterRoleBinding key → IsBindingState known key places.cluster_bindings (choice.binding key)
  pub of_nameless : (number : ℕ) (span : OpaqueSpan) → slice_get known.spans number ≡ Some span → IsNamelessCreate RoleBinding span.cover
      → choice.nameless number ≡ true → span.low < places.bindings
  pub of_cluster_nameless : (number : ℕ) (span : OpaqueSpan) → slice_get known.spans number ≡ Some span → IsNamelessCreate ClusterRoleBinding span.cover
      → choice.nameless number ≡ true → span.low < places.cluster_bindings

-- there is a version of the object, or a cover names it
pub data IsKnownKey (known : Known) (key : ObjectKey) : Type 0 where
  has_version : (version : RbacVersion) → Contains known.versions version → version.key ≡ key → IsKnownKey known key
  is_named : (span : OpaqueSpan) → Contains known.spans span → NamesExactly span.cover key → IsKnownKey known key

-- a role grants by a rule of its own
abbrev pub RoleGrants : RequestAttrs → State (List PolicyRule) → Type 0
RoleGrants attrs state = IsGranted (λ rules. Grants rules attrs) state

-- a binding grants where a subject matches, and the role that it names grants
abbrev pub BindingGrants : Choice → ObjectKey → User → RequestAttrs → State Binding → Type 0
BindingGrants choice key who attrs state =
    IsGranted (λ binding. Any (λ subject. Matches subject who) binding.subjects × RoleGrants attrs (choice.role (role_key key binding))) state

-- a group of the user is allowed everything
abbrev pub IsBypassed : Known → User → Type 0
IsBypassed known who = Any (λ group. Contains known.bypass group) who.groups

-- the choice allows the request: by a group, by a binding that reaches it, or by one whose name isn't known
pub data Allows (known : Known) (choice : Choice) (who : User) (attrs : RequestAttrs) : Type 0 where
  by_group : IsBypassed known who → Allows known choice who attrs
  by_binding : (key : ObjectKey) → IsKnownKey known key → IsReached key attrs → BindingGrants choice key who attrs (choice.binding key) → Allows known choice who attrs
  by_nameless : (number : ℕ) (span : OpaqueSpan) → slice_get known.spans number ≡ Some span → IsReachedNameless span.cover attrs → choice.nameless number ≡ true
      → Allows known choice who attrs
