-- The versions and removals of the example whose grants end one behind the other.
use Rattle.std.specs.Prelude.{ℕ, List, [], ◌∷◌, codes}
use Rattle.base_types.specs.declared.kubernetes.key.ObjectKey.{ObjectKey}
use Rattle.clouds.specs.declared.span.KeyRevision.{KeyRevision}
use Rattle.rbac_timeline.specs.declared.version.RbacEnd.{RbacEnd}
use Rattle.rbac_timeline.specs.Kinds.{rbac_group}

abbrev pub rbac_key : List ℕ → List ℕ → List ℕ → ObjectKey
rbac_key resource namespace name = record { group = rbac_group; resource = resource; namespace = namespace; name = name }

abbrev pub revised : ObjectKey → ℕ → KeyRevision
revised key revision = record { key = key; revision = revision }

abbrev pub ended : ObjectKey → ℕ → ℕ → ℕ → RbacEnd
ended key last low high = record { key = key; last = last; low = low; high = high }

abbrev pub cluster_binding : ObjectKey
cluster_binding = rbac_key (codes "clusterrolebindings") (codes "") (codes "g")

abbrev pub cluster_role : ObjectKey
cluster_role = rbac_key (codes "clusterroles") (codes "") (codes "k")

abbrev pub binding : List ℕ → ObjectKey
binding name = rbac_key (codes "rolebindings") (codes "d") name

abbrev pub role : ObjectKey
role = rbac_key (codes "roles") (codes "d") (codes "r")

-- in the order of their keys
abbrev pub several_revisions : List KeyRevision
several_revisions = revised cluster_binding 5 ∷ revised cluster_role 4 ∷ revised (binding (codes "a")) 6 ∷ revised (binding (codes "b")) 7 ∷ revised role 3 ∷ []

abbrev pub several_ends : List RbacEnd
several_ends = ended (binding (codes "a")) 6 12 13 ∷ ended (binding (codes "b")) 7 15 16 ∷ ended role 3 20 21 ∷ ended cluster_role 4 25 26 ∷ ended cluster_binding 5 30 31 ∷ []
