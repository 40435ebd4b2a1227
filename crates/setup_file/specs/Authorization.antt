-- Whether recorded decisions are judged, and for whom (Kubernetes "Using RBAC Authorization").
use Rattle.std.specs.Prelude.{ℕ, Bool, true, false, ◌&&◌, ◌||◌, List, [], ◌∷◌, Option, Some, None, is_some, bytes_eq, codes, if◌then◌else◌}
use Rattle.std.specs.List.{list_all}
use Rattle.base_types.specs.Meaning.{Meaning}
use Rattle.base_types.specs.Parts.{member_of, flag_of}
use Rattle.base_types.specs.Texts.{◌>>=◌, texts_of}
use Rattle.rbac_rules.specs.Forms.{role_of, binding_of}
use Rattle.setup_file.specs.declared.authorization.Authorization.{Authorization}
use Rattle.setup_file.specs.declared.setup.Tracked.{Tracked}
use Rattle.setup_file.specs.declared.setup.SnapshotObject.{SnapshotObject}
use Rattle.setup_file.specs.Resources.{tracked_as}

abbrev pub rbac_group : List ℕ
rbac_group = codes "rbac.authorization.k8s.io"

abbrev pub rbac_resources : List (List ℕ)
rbac_resources = codes "roles" ∷ codes "clusterroles" ∷ codes "rolebindings" ∷ codes "clusterrolebindings" ∷ []

abbrev pub authorize_of : Option Meaning → Option Bool
authorize_of None = Some false
authorize_of (Some tree) = flag_of tree

-- the groups of a member, or the one group that needn't be said
abbrev pub groups_or : List ℕ → Option Meaning → Option (List (List ℕ))
groups_or usual None = Some (usual ∷ [])
groups_or usual (Some tree) = texts_of tree

abbrev pub authorization_of : Meaning → Option Authorization
authorization_of tree = do
  authorize ← authorize_of (member_of (codes "authorize") tree)
  bypass ← groups_or (codes "system:masters") (member_of (codes "bypassGroups") tree)
  skip ← groups_or (codes "system:nodes") (member_of (codes "skipGroups") tree)
  Some (record { authorize = authorize; bypass = bypass; skip = skip })

abbrev pub is_rbac : List ℕ → SnapshotObject → Bool
is_rbac resource object = bytes_eq object.key.group rbac_group && bytes_eq object.key.resource resource

-- a role or a binding of the snapshot is one that RBAC can read
abbrev pub is_readable : SnapshotObject → Bool
is_readable object =
    if is_rbac (codes "roles") object || is_rbac (codes "clusterroles") object then is_some (role_of object.tree)
    else (if is_rbac (codes "rolebindings") object || is_rbac (codes "clusterrolebindings") object then is_some (binding_of object.tree) else true)

-- what RBAC needs: the four resources are tracked, and the objects of the snapshot are readable
abbrev pub has_rbac : List Tracked → List SnapshotObject → Bool
has_rbac resources snapshot =
    list_all (λ resource. is_some (tracked_as resources rbac_group resource)) rbac_resources
    && list_all is_readable snapshot

abbrev pub is_authorized : List Tracked → List SnapshotObject → Authorization → Bool
is_authorized resources snapshot authorization = if authorization.authorize then has_rbac resources snapshot else true
