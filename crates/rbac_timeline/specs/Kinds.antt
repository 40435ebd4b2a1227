-- The four kinds of objects of `rbac.authorization.k8s.io` (Kubernetes "Using RBAC Authorization", "API objects").
use Rattle.std.specs.Prelude.{◌≡◌, ℕ, Bool, true, false, ◌&&◌, List, [], Option, Some, None, MatchOption, bytes_eq, codes, if◌then◌else◌}
use Rattle.base_types.specs.declared.kubernetes.key.ObjectKey.{ObjectKey}
use Rattle.base_types.specs.declared.kubernetes.key.Cover.{Cover}
use Rattle.base_types.specs.declared.kubernetes.key.CoverName.{CoverName}
use Rattle.base_types.specs.declared.kubernetes.key.CoverName.TheVariants.{Exact, Prefix, Any}
use Rattle.base_types.specs.declared.kubernetes.request.RequestAttrs.{RequestAttrs}
use Rattle.rbac_rules.specs.declared.binding.Binding.{Binding}
use Rattle.rbac_rules.specs.declared.binding.Subject.{Subject}
use Rattle.rbac_timeline.specs.declared.kind.Kind.{Kind}
use Rattle.rbac_timeline.specs.declared.kind.Kind.TheVariants.{Role as RoleKind, ClusterRole, RoleBinding, ClusterRoleBinding}
use Rattle.rbac_timeline.specs.declared.version.RbacContent.{RbacContent}
use Rattle.rbac_timeline.specs.declared.version.RbacContent.TheVariants.{Bound, Role, Unreadable}

abbrev pub rbac_group : List ℕ
rbac_group = codes "rbac.authorization.k8s.io"

-- the kind of a resource of the group
abbrev pub kind_of_resource : List ℕ → Option Kind
kind_of_resource resource =
    if bytes_eq resource (codes "roles") then Some RoleKind
    else (if bytes_eq resource (codes "clusterroles") then Some ClusterRole
    else (if bytes_eq resource (codes "rolebindings") then Some RoleBinding
    else (if bytes_eq resource (codes "clusterrolebindings") then Some ClusterRoleBinding else None)))

abbrev pub kind_of : List ℕ → List ℕ → Option Kind
kind_of group resource = if bytes_eq group rbac_group then kind_of_resource resource else None

abbrev pub kind_of_key : ObjectKey → Option Kind
kind_of_key key = kind_of key.group key.resource

abbrev pub IsKeyOf : Kind → ObjectKey → Type 0
IsKeyOf kind key = kind_of_key key ≡ Some kind

-- The key of the role that a binding names: a ClusterRole, or a Role of the binding's namespace.
abbrev pub role_key : ObjectKey → Binding → ObjectKey
role_key key binding =
    if binding.role_is_cluster then record { group = rbac_group; resource = codes "clusterroles"; namespace = []; name = binding.role }
    else record { group = rbac_group; resource = codes "roles"; namespace = key.namespace; name = binding.role }

-- A ClusterRoleBinding grants everywhere, a RoleBinding resource requests in its own namespace.
abbrev pub IsReachedBy : Option Kind → ObjectKey → RequestAttrs → Type 0
IsReachedBy (Some ClusterRoleBinding) key attrs = Unit {0}
IsReachedBy (Some RoleBinding) key attrs = (attrs.is_resource ≡ true) × (attrs.namespace ≡ key.namespace)
IsReachedBy _ key attrs = ⊥

abbrev pub IsReached : ObjectKey → RequestAttrs → Type 0
IsReached key attrs = IsReachedBy (kind_of_key key) key attrs

-- whether the kind is that of cluster role bindings
abbrev pub is_cluster_binding : Option Kind → Bool
is_cluster_binding None = false
is_cluster_binding (Some RoleKind) = false
is_cluster_binding (Some ClusterRole) = false
is_cluster_binding (Some RoleBinding) = false
is_cluster_binding (Some ClusterRoleBinding) = true

-- A ClusterRoleBinding can't name a Role.
abbrev pub IsBindingOf : ObjectKey → RbacContent → Binding → Type 0
IsBindingOf key content binding = (content ≡ Bound binding) × (IsKeyOf ClusterRoleBinding key → binding.role_is_cluster ≡ true)

-- whether a binding of this kind may name its role, which is a ClusterRole or not
abbrev pub can_bind : Option Kind → Bool → Bool
can_bind None of_cluster = false
can_bind (Some RoleKind) of_cluster = false
can_bind (Some ClusterRole) of_cluster = false
can_bind (Some RoleBinding) of_cluster = true
can_bind (Some ClusterRoleBinding) of_cluster = of_cluster

-- whether a version of this key is a binding that can be read
abbrev pub is_readable : ObjectKey → RbacContent → Bool
is_readable key (Role rules) = false
is_readable key (Bound binding) = can_bind (kind_of_key key) binding.role_is_cluster
is_readable key Unreadable = false

-- the subjects that a version of this key names
abbrev pub subjects_of : ObjectKey → RbacContent → List Subject
subjects_of key (Role rules) = []
subjects_of key (Bound binding) = if can_bind (kind_of_key key) binding.role_is_cluster then binding.subjects else []
subjects_of key Unreadable = []

-- whether the kind is one of bindings
abbrev pub is_binding : Option Kind → Bool
is_binding None = false
is_binding (Some RoleKind) = false
is_binding (Some ClusterRole) = false
is_binding (Some RoleBinding) = true
is_binding (Some ClusterRoleBinding) = true

-- a cover without an exact name
abbrev pub IsNameless : CoverName → Type 0
IsNameless (Exact name) = ⊥
IsNameless (Prefix front) = Unit {0}
IsNameless Any = Unit {0}

abbrev pub is_nameless : CoverName → Bool
is_nameless (Exact name) = false
is_nameless (Prefix front) = true
is_nameless Any = true

-- the kind of an object that was created without a known name
abbrev pub nameless_kind : Cover → Option Kind
nameless_kind cover = if cover.creates && is_nameless cover.name then kind_of cover.group cover.resource else None

-- the create of a binding of this kind whose name isn't known
pub record IsNamelessCreate (kind : Kind) (cover : Cover) : Type 0 where
  pub of_kind : kind_of cover.group cover.resource ≡ Some kind
  pub creates : cover.creates ≡ true
  pub nameless : IsNameless cover.name

-- The requests that such a binding may reach. Its namespace may be any, and then it may be that of the request.
pub data IsReachedNameless (cover : Cover) (attrs : RequestAttrs) : Type 0 where
  everywhere : IsNamelessCreate ClusterRoleBinding cover → IsReachedNameless cover attrs
  in_namespace : IsNamelessCreate RoleBinding cover → attrs.is_resource ≡ true
      → MatchOption cover.namespace (Unit {0}) (λ namespace. attrs.namespace ≡ namespace) → IsReachedNameless cover attrs
