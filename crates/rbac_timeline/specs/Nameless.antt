-- From where on there may be bindings whose names aren't known.
use Rattle.std.specs.Prelude.{◌≡◌, ◌<◌, ◌↔◌, ℕ, Bool, true, false, ◌&&◌, ◌||◌, nat_lt, min, List, Option, Some, None, Any}
use Rattle.std.specs.BTreeMap.{get}
use Rattle.base_types.specs.declared.kubernetes.request.RequestAttrs.{RequestAttrs}
use Rattle.clouds.specs.Kept.{text_order}
use Rattle.clouds.specs.declared.span.OpaqueSpan.{OpaqueSpan}
use Rattle.rbac_timeline.specs.declared.kind.Kind.{Kind}
use Rattle.rbac_timeline.specs.declared.kind.Kind.TheVariants.{Role, ClusterRole, RoleBinding, ClusterRoleBinding}
use Rattle.rbac_timeline.specs.declared.nameless.Nameless.{Nameless}
use Rattle.rbac_timeline.specs.Kinds.{nameless_kind}

-- the lesser of two, where there are two
abbrev pub lesser_of : Option ℕ → ℕ → ℕ
lesser_of None low = low
lesser_of (Some other) low = min other low

abbrev pub is_below : Option ℕ → ℕ → Bool
is_below None place = false
is_below (Some low) place = nat_lt low place

-- the number tells whether one of these spans begins below a place
abbrev pub TellsBelow : (OpaqueSpan → Type 0) → List OpaqueSpan → Option ℕ → Type 0
TellsBelow select spans low = (place : ℕ) → (is_below low place ≡ true) ↔ Any (λ span. select span × (span.low < place)) spans

abbrev pub IsUnnamedIn : List ℕ → OpaqueSpan → Type 0
IsUnnamedIn namespace span = (nameless_kind span.cover ≡ Some RoleBinding) × (span.cover.namespace ≡ Some namespace)

abbrev pub IsUnnamedAnywhere : OpaqueSpan → Type 0
IsUnnamedAnywhere span = (nameless_kind span.cover ≡ Some RoleBinding) × (span.cover.namespace ≡ None)

abbrev pub IsUnnamedInCluster : OpaqueSpan → Type 0
IsUnnamedInCluster span = nameless_kind span.cover ≡ Some ClusterRoleBinding

-- from where on there may be bindings whose names aren't known
pub record AreLows (nameless : Nameless) (spans : List OpaqueSpan) : Type 0 where
  pub in_namespace : (namespace : List ℕ) → TellsBelow (IsUnnamedIn namespace) spans (get text_order nameless.by_namespace namespace)
  pub anywhere : TellsBelow IsUnnamedAnywhere spans nameless.anywhere
  pub in_cluster : TellsBelow IsUnnamedInCluster spans nameless.cluster_bindings

-- whether one of a kind may be there before the place, and may grant the request
abbrev pub may_grant : Nameless → Kind → ℕ → RequestAttrs → Bool
may_grant nameless Role place attrs = false
may_grant nameless ClusterRole place attrs = false
may_grant nameless RoleBinding place attrs = attrs.is_resource && (is_below nameless.anywhere place || is_below (get text_order nameless.by_namespace attrs.namespace) place)
may_grant nameless ClusterRoleBinding place attrs = is_below nameless.cluster_bindings place
