-- The least places of roles with which bindings at a place don't grant for certain.
use Rattle.std.specs.Prelude.{◌≡◌, ◌<◌, ◌≤◌, ◌⊎◌, ℕ, Option, Some, None, IfSome, Result, Ok, Err}
use Rattle.std.specs.BTreeMap.{BTreeMap, get}
use Rattle.std.specs.Ordering.{nat_cmp}
use Rattle.base_types.specs.declared.verdict.placed.Places.{Places}
use Rattle.base_types.specs.declared.kubernetes.request.RequestAttrs.{RequestAttrs}
use Rattle.base_types.specs.declared.kubernetes.request.User.{User}
use Rattle.clouds.specs.FirstPlace.{HoldsNowhere, IsLeastPlace}
use Rattle.rbac_timeline.specs.declared.search.RoleCache.{RoleCache}
use Rattle.rbac_timeline.specs.declared.search.RoleCache.TheVariants.{Cluster, Plain}
use Rattle.rbac_timeline.specs.declared.way.Way.TheVariants.{ClusterRoles, Roles}
use Rattle.rbac_timeline.specs.Extents.{MustGrantInWay}
use Rattle.rbac_timeline.specs.Known.{Known}
use Rattle.rbac_timeline.specs.Lasting.{HoldsUpTo}
use Rattle.rbac_timeline.specs.Searched.{AreFirstOf, IsFreeAt, IsFreeCluster}

-- all places below this one are barred, or all places where there is none
abbrev pub AllBarred : (ℕ → ℕ → Type 0) → ℕ → ℕ → Option ℕ → ℕ → Type 0
AllBarred barred low high None binding = (n : ℕ) → low ≤ n → n ≤ high → barred n binding
AllBarred barred low high (Some place) binding = (n : ℕ) → low ≤ n → n < place → barred n binding

-- the least place that isn't barred, if there is one, and a place of bindings up to which no lesser one is free
pub record IsFreed (barred : ℕ → ℕ → Type 0) (bindings low high : ℕ) (place : Option ℕ) (last : ℕ) : Type 0 where
  pub below : HoldsUpTo (AllBarred barred low high place) bindings high last
  pub here : IfSome place (λ n. (low ≤ n) × ((n ≤ high) × (barred n bindings → ⊥)))

-- role bindings grant for certain by cluster roles, or cluster role bindings do wherever they are
abbrev pub IsBarredClusterRole : Known → User → RequestAttrs → ℕ → ℕ → ℕ → ℕ → Type 0
IsBarredClusterRole known who attrs low high cluster_roles bindings =
    MustGrantInWay known ClusterRoles cluster_roles bindings who attrs ⊎ HoldsNowhere (IsFreeCluster known who attrs cluster_roles) low high

-- nothing is free with these roles and these role bindings: those grant for certain by roles, or as above
abbrev pub IsBarred : Known → User → RequestAttrs → ℕ → ℕ → RoleCache → ℕ → ℕ → Type 0
IsBarred known who attrs low high Plain roles bindings = MustGrantInWay known Roles roles bindings who attrs
IsBarred known who attrs low high Cluster cluster_roles bindings = IsBarredClusterRole known who attrs low high cluster_roles bindings

-- the place is one of a range
pub record IsWithin (low high place : ℕ) : Type 0 where
  -- it isn't before the first place
  pub from : low ≤ place
  -- nor behind the last one
  pub upto : place ≤ high

-- the least free places with the role bindings from one place up to another
abbrev pub AreFirstFrom : Known → User → RequestAttrs → ℕ → ℕ → ℕ → ℕ → Option Places → Type 0
AreFirstFrom known who attrs low high bindings last places = AreFirstOf (λ p. (bindings ≤ p.bindings) × ((p.bindings ≤ last) × IsFreeAt known who attrs p)) low high places

-- the least free place of cluster role bindings with these cluster roles, or a place of cluster roles up to which there is none
abbrev pub IsFirstFree : Known → User → RequestAttrs → ℕ → ℕ → ℕ → Result ℕ ℕ → Type 0
IsFirstFree known who attrs low high cluster_roles (Ok place) = IsLeastPlace (IsFreeCluster known who attrs cluster_roles) low high place
IsFirstFree known who attrs low high cluster_roles (Err reached) = HoldsUpTo (λ c. HoldsNowhere (IsFreeCluster known who attrs c) low high) cluster_roles high reached

-- what is remembered of the places of cluster roles is what a search finds for them
abbrev pub AreFirstFree : Known → User → RequestAttrs → ℕ → ℕ → BTreeMap ℕ (Result ℕ ℕ) → Type 0
AreFirstFree known who attrs low high free_bindings =
    (cluster_roles : ℕ) (found : Result ℕ ℕ) → get nat_cmp free_bindings cluster_roles ≡ Some found → IsFirstFree known who attrs low high cluster_roles found
