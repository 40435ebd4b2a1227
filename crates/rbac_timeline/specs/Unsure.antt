-- Which bindings may be clouded or unreadable somewhere.
use Rattle.std.specs.Prelude.{◌≡◌, ◌≤◌, ◌^◌, ◌-◌, ◌⊎◌, ℕ, true, false, List, Any, Contains}
use Rattle.base_types.specs.Covers.{NamesExactly}
use Rattle.base_types.specs.declared.kubernetes.key.ObjectKey.{ObjectKey}
use Rattle.base_types.specs.declared.kubernetes.request.RequestAttrs.{RequestAttrs}
use Rattle.clouds.specs.Clouds.{IsClouded}
use Rattle.clouds.specs.Items.{items_at}
use Rattle.clouds.specs.Kept.{text_order}
use Rattle.clouds.specs.Writes.{Writes}
use Rattle.clouds.specs.declared.span.OpaqueSpan.{OpaqueSpan}
use Rattle.rbac_timeline.specs.declared.kind.Kind.{Kind}
use Rattle.rbac_timeline.specs.declared.kind.Kind.TheVariants.{Role, ClusterRole, RoleBinding, ClusterRoleBinding}
use Rattle.rbac_timeline.specs.declared.unsure.Unsure.{Unsure}
use Rattle.rbac_timeline.specs.declared.version.RbacVersion.{RbacVersion}
use Rattle.rbac_timeline.specs.Kinds.{IsKeyOf, is_binding, is_readable, kind_of_key}

abbrev pub last_place : ℕ
last_place = 2 ^ 64 - 1

-- the list has just what the other list's items give
pub record AreGathered {X Y : Type 0} (gives : X → Y → Type 0) (xs : List X) (ys : List Y) : Type 0 where
  pub among : (y : Y) → Contains ys y → Any (λ x. gives x y) xs
  pub full : (x : X) (y : Y) → Contains xs x → gives x y → Contains ys y

abbrev pub IsCloudedSomewhere : Writes → ObjectKey → Type 0
IsCloudedSomewhere writes key = (place : ℕ) × (place ≤ last_place) × IsClouded writes key place

-- this version of a binding can't be read, or the binding is clouded somewhere
abbrev pub MayBeUnsure : Writes → RbacVersion → Type 0
MayBeUnsure writes version = (is_binding (kind_of_key version.key) ≡ true) × ((is_readable version.key version.content ≡ false) ⊎ IsCloudedSomewhere writes version.key)

abbrev pub GivesUnsure : Writes → RbacVersion → ObjectKey → Type 0
GivesUnsure writes version key = MayBeUnsure writes version × (version.key ≡ key)

abbrev pub GivesNamed : OpaqueSpan → ObjectKey → Type 0
GivesNamed span key = NamesExactly span.cover key

-- bindings are found by their namespace, and cluster role bindings in one list
pub record AreFound (unsure : Unsure) (keys : List ObjectKey) : Type 0 where
  pub in_namespace : (namespace : List ℕ) (key : ObjectKey) → Contains (items_at text_order unsure.by_namespace namespace) key → Contains keys key
  pub in_cluster : (key : ObjectKey) → Contains unsure.cluster_bindings key → Contains keys key
  pub found : (key : ObjectKey) → Contains keys key → IsKeyOf RoleBinding key → Contains (items_at text_order unsure.by_namespace key.namespace) key
  pub found_in_cluster : (key : ObjectKey) → Contains keys key → IsKeyOf ClusterRoleBinding key → Contains unsure.cluster_bindings key

-- those of which the versions, and the spans, say so
pub record AreUnsure (writes : Writes) (versions : List RbacVersion) (spans : List OpaqueSpan) (unsure : Unsure) : Type 0 where
  pub keys : List ObjectKey
  pub found : AreFound unsure keys
  pub among : (key : ObjectKey) → Contains keys key → Any (λ version. GivesUnsure writes version key) versions ⊎ Any (λ span. GivesNamed span key) spans
  pub of_version : (version : RbacVersion) (key : ObjectKey) → Contains versions version → GivesUnsure writes version key → Contains keys key
  pub of_span : (span : OpaqueSpan) (key : ObjectKey) → Contains spans span → GivesNamed span key → Contains keys key

-- the keys of a kind that may concern the request
abbrev pub unsure_keys : Unsure → Kind → RequestAttrs → List ObjectKey
unsure_keys unsure Role attrs = items_at text_order unsure.by_namespace attrs.namespace
unsure_keys unsure ClusterRole attrs = items_at text_order unsure.by_namespace attrs.namespace
unsure_keys unsure RoleBinding attrs = items_at text_order unsure.by_namespace attrs.namespace
unsure_keys unsure ClusterRoleBinding attrs = unsure.cluster_bindings
