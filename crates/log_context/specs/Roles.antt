-- The roles and bindings among the versions (Kubernetes "Using RBAC Authorization", "API objects").
use Rattle.std.specs.Prelude.{◌≡◌, ◌+◌, ℕ, Bool, List, [], ◌∷◌, Option, Some, None, if◌then◌else◌, map, filter, is_some, slice_get, option_and_then, AllPairs, Contains}
use Rattle.std.specs.List.{filter_map}
use Rattle.std.specs.declared.cmp.Ordering.{Ordering}
use Rattle.base_types.specs.declared.kubernetes.key.ObjectKey.{ObjectKey}
use Rattle.base_types.specs.Meaning.{Meaning}
use Rattle.object_past.specs.declared.removal.Removal.{Removal}
use Rattle.object_past.specs.declared.version.Version.{Version}
use Rattle.rbac_rules.specs.Forms.{role_of, binding_of}
use Rattle.rbac_rules.specs.declared.binding.Binding.{Binding}
use Rattle.rbac_rules.specs.declared.role.PolicyRule.{PolicyRule}
use Rattle.rbac_timeline.specs.Kinds.{kind_of_key}
use Rattle.rbac_timeline.specs.Sound.{IsBefore}
use Rattle.rbac_timeline.specs.declared.kind.Kind.{Kind}
use Rattle.rbac_timeline.specs.declared.kind.Kind.TheVariants as kind
use Rattle.rbac_timeline.specs.declared.version.RbacContent.{RbacContent}
use Rattle.rbac_timeline.specs.declared.version.RbacContent.TheVariants.{Role, Bound, Unreadable}
use Rattle.rbac_timeline.specs.declared.version.RbacEnd.{RbacEnd}
use Rattle.rbac_timeline.specs.declared.version.RbacVersion.{RbacVersion}
use Rattle.log_context.specs.contracts.roles.RoleTurnOrd.TheImpl as turn_ord
use Rattle.log_context.specs.declared.roles.RoleTurn.{RoleTurn}

abbrev pub rules_content : Option (List PolicyRule) → RbacContent
rules_content None = Unreadable
rules_content (Some rules) = Role rules

abbrev pub bound_content : Option Binding → RbacContent
bound_content None = Unreadable
bound_content (Some binding) = Bound binding

abbrev pub role_content : Meaning → RbacContent
role_content tree = rules_content (role_of tree)

abbrev pub binding_content : Meaning → RbacContent
binding_content tree = bound_content (binding_of tree)

-- what an object of the kind holds, as the authorizer reads it
abbrev pub content_by : Option Kind → Meaning → RbacContent
content_by None tree = Unreadable
content_by (Some kind.Role) tree = role_content tree
content_by (Some kind.ClusterRole) tree = role_content tree
content_by (Some kind.RoleBinding) tree = binding_content tree
content_by (Some kind.ClusterRoleBinding) tree = binding_content tree

abbrev pub is_role : ObjectKey → Bool
is_role key = is_some (kind_of_key key)

abbrev pub version_with : Version → Option Kind → Option Meaning → Option RbacVersion
version_with v None tree = None
version_with v (Some kind) None = None
version_with v (Some kind) (Some tree) = Some (record { key = v.key; revision = v.revision; content = content_by (Some kind) tree })

-- the role or binding that a version is
abbrev pub rbac_version : List Meaning → Version → Option RbacVersion
rbac_version trees v = version_with v (kind_of_key v.key) (slice_get trees v.node.0)

-- by key, at one key by revision
abbrev pub turn_order : RoleTurn → RoleTurn → Ordering
turn_order = (turn_ord.ghosts).cmp

-- the turns of the roles and bindings among the versions from the position on
abbrev pub turns_from : ℕ → List Version → List RoleTurn
turns_from position [] = []
turns_from position (v ∷ versions) =
    if is_role v.key then record { key = v.key; revision = v.revision; position = position } ∷ turns_from (position + 1) versions
    else turns_from (position + 1) versions

-- the roles and bindings at these positions
abbrev pub roles_at : List Meaning → List Version → List RoleTurn → List RbacVersion
roles_at trees versions turns = filter_map (λ turn. option_and_then (rbac_version trees) (slice_get versions turn.position)) turns

-- the roles and bindings of some versions, by key and revision
pub record AreRoles (trees : List Meaning) (versions : List Version) (found : List RbacVersion) : Type 0 where
  pub rising : AllPairs IsBefore found
  pub sound : (r : RbacVersion) → Contains found r → (v : Version) × Contains versions v × (rbac_version trees v ≡ Some r)
  pub full : (v : Version) (r : RbacVersion) → Contains versions v → rbac_version trees v ≡ Some r → Contains found r

abbrev pub role_end : Removal → RbacEnd
role_end removal = record { key = removal.key; last = removal.last; low = removal.range.low; high = removal.range.high }

-- the removals of roles and bindings
abbrev pub role_ends : List Removal → List RbacEnd
role_ends removals = map role_end (filter (λ removal. is_role removal.key) removals)
