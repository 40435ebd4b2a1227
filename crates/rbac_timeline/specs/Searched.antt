-- The least places of two caches at which something holds.
use Rattle.std.specs.Prelude.{◌≤◌, ◌⊎◌, ℕ, Bool, ◌&&◌, ◌||◌, ◌==◌, nat_lt, nat_le, Option, Some, None, if◌then◌else◌}
use Rattle.base_types.specs.PlaceOrder.{ComesFirst, IsUpTo}
use Rattle.base_types.specs.declared.verdict.placed.Places.{Places}
use Rattle.base_types.specs.declared.kubernetes.request.RequestAttrs.{RequestAttrs}
use Rattle.base_types.specs.declared.kubernetes.request.User.{User}
use Rattle.rbac_timeline.specs.declared.way.Way.{Way}
use Rattle.rbac_timeline.specs.declared.way.Way.TheVariants.{ClusterBindings, ClusterRoles, Roles}
use Rattle.rbac_timeline.specs.Decisions.{AreWithin}
use Rattle.rbac_timeline.specs.Extents.{MayGrantInWay, MustGrantInWay}
use Rattle.rbac_timeline.specs.Known.{Known}

-- a is before b by its first number, and then by its second
abbrev pub IsPairUpTo : ℕ → ℕ → ℕ → ℕ → Type 0
IsPairUpTo a0 a1 b0 b1 = ComesFirst a0 b0 (a1 ≤ b1)

pub record IsLeastPair (holds : ℕ → ℕ → Type 0) (low high first second : ℕ) : Type 0 where
  pub first_from : low ≤ first
  pub first_upto : first ≤ high
  pub second_from : low ≤ second
  pub second_upto : second ≤ high
  pub here : holds first second
  pub least : (a b : ℕ) → low ≤ a → a ≤ high → low ≤ b → b ≤ high → holds a b → IsPairUpTo first second a b

abbrev pub IsFirstPair : (ℕ → ℕ → Type 0) → ℕ → ℕ → Option (ℕ × ℕ) → Type 0
IsFirstPair holds low high None = (a b : ℕ) → low ≤ a → a ≤ high → low ≤ b → b ≤ high → holds a b → ⊥
IsFirstPair holds low high (Some pair) = IsLeastPair holds low high pair.0 pair.1

-- the least places of a kind within the range
pub record AreLeastOf (holds : Places → Type 0) (low high : ℕ) (places : Places) : Type 0 where
  pub within : AreWithin low high places
  pub here : holds places
  pub least : (other : Places) → AreWithin low high other → holds other → IsUpTo places other

abbrev pub AreFirstOf : (Places → Type 0) → ℕ → ℕ → Option Places → Type 0
AreFirstOf holds low high None = (places : Places) → AreWithin low high places → holds places → ⊥
AreFirstOf holds low high (Some places) = AreLeastOf holds low high places

-- the place of the roles in a way, and of its bindings
abbrev pub roles_at : Way → Places → ℕ
roles_at Roles places = places.roles
roles_at ClusterRoles places = places.cluster_roles
roles_at ClusterBindings places = places.cluster_roles

abbrev pub bindings_at : Way → Places → ℕ
bindings_at Roles places = places.bindings
bindings_at ClusterRoles places = places.bindings
bindings_at ClusterBindings places = places.cluster_bindings

-- a binding may grant in this way
abbrev pub MayGrantBy : Known → User → RequestAttrs → Way → Places → Type 0
MayGrantBy known who attrs way places = MayGrantInWay known way (roles_at way places) (bindings_at way places) who attrs

-- in one of the ways
abbrev pub MayGrantAt : Known → User → RequestAttrs → Places → Type 0
MayGrantAt known who attrs places = MayGrantBy known who attrs Roles places ⊎ (MayGrantBy known who attrs ClusterRoles places ⊎ MayGrantBy known who attrs ClusterBindings places)

-- no cluster role binding, and no role binding, grants for certain
abbrev pub IsFreeCluster : Known → User → RequestAttrs → ℕ → ℕ → Type 0
IsFreeCluster known who attrs cluster_roles cluster_bindings = MustGrantInWay known ClusterBindings cluster_roles cluster_bindings who attrs → ⊥

abbrev pub IsFreePlain : Known → User → RequestAttrs → ℕ → ℕ → ℕ → Type 0
IsFreePlain known who attrs roles cluster_roles bindings = (MustGrantInWay known Roles roles bindings who attrs → ⊥) × (MustGrantInWay known ClusterRoles cluster_roles bindings who attrs → ⊥)

-- nothing grants for certain
abbrev pub IsFreeAt : Known → User → RequestAttrs → Places → Type 0
IsFreeAt known who attrs places = IsFreePlain known who attrs places.roles places.cluster_roles places.bindings × IsFreeCluster known who attrs places.cluster_roles places.cluster_bindings

-- all caches at one place
abbrev pub all_at : ℕ → Places
all_at place = record { roles = place; cluster_roles = place; bindings = place; cluster_bindings = place }

abbrev pub lesser_number : ℕ → ℕ → Bool → Bool
lesser_number a b rest = nat_lt a b || (a == b && rest)

-- places are compared by their roles, then their cluster roles, bindings and cluster bindings
abbrev pub is_upto : Places → Places → Bool
is_upto a b = lesser_number a.roles b.roles (lesser_number a.cluster_roles b.cluster_roles (lesser_number a.bindings b.bindings (nat_le a.cluster_bindings b.cluster_bindings)))

-- the lesser of two, where there are any
abbrev pub lesser_places : Option Places → Option Places → Option Places
lesser_places None b = b
lesser_places (Some a) None = Some a
lesser_places (Some a) (Some b) = if is_upto a b then Some a else Some b

-- two places among the others
abbrev pub with_roles : Option (ℕ × ℕ) → Places → Option Places
with_roles None lowest = None
with_roles (Some pair) lowest = Some (record { roles = pair.0; cluster_roles = lowest.cluster_roles; bindings = pair.1; cluster_bindings = lowest.cluster_bindings })

abbrev pub with_cluster_roles : Option (ℕ × ℕ) → Places → Option Places
with_cluster_roles None lowest = None
with_cluster_roles (Some pair) lowest = Some (record { roles = lowest.roles; cluster_roles = pair.0; bindings = pair.1; cluster_bindings = lowest.cluster_bindings })

abbrev pub with_cluster_bindings : Option (ℕ × ℕ) → Places → Option Places
with_cluster_bindings None lowest = None
with_cluster_bindings (Some pair) lowest = Some (record { roles = lowest.roles; cluster_roles = pair.0; bindings = lowest.bindings; cluster_bindings = pair.1 })
