-- The versions and removals of the example that tests decide by.
use Rattle.std.specs.Prelude.{ℕ, List, [], ◌∷◌, codes}
use Rattle.base_types.specs.declared.kubernetes.key.ObjectKey.{ObjectKey}
use Rattle.clouds.specs.declared.span.KeyRevision.{KeyRevision}
use Rattle.rbac_timeline.specs.declared.version.RbacEnd.{RbacEnd}
use Rattle.rbac_timeline.specs.Kinds.{rbac_group}

-- in the namespace `d`
abbrev pub example_key : List ℕ → List ℕ → ObjectKey
example_key resource name = record { group = rbac_group; resource = resource; namespace = codes "d"; name = name }

abbrev pub example_revision : List ℕ → List ℕ → ℕ → KeyRevision
example_revision resource name number = record { key = example_key resource name; revision = number }

abbrev pub example_end : List ℕ → List ℕ → ℕ → ℕ → ℕ → RbacEnd
example_end resource name last low high = record { key = example_key resource name; last = last; low = low; high = high }

-- two RoleBindings and a Role
abbrev pub example_revisions : List KeyRevision
example_revisions = example_revision (codes "rolebindings") (codes "b") 4 ∷ example_revision (codes "rolebindings") (codes "c") 15 ∷ example_revision (codes "roles") (codes "r") 3 ∷ []

-- the first binding was removed, and the Role
abbrev pub example_ends : List RbacEnd
example_ends = example_end (codes "rolebindings") (codes "b") 4 11 12 ∷ example_end (codes "roles") (codes "r") 3 21 22 ∷ []
