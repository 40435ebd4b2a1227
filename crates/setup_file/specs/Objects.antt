-- Objects of a resource (Kubernetes API concepts, "Objects": `apiVersion`, `kind` and `metadata`).
use Rattle.std.specs.Prelude.{ℕ, Bool, true, false, ◌&&◌, ◌||◌, List, [], ◌∷◌, Option, Some, None, bytes_eq, codes, is_none, if◌then◌else◌}
use Rattle.base_types.specs.Matching.{combined}
use Rattle.base_types.specs.Meaning.{Meaning}
use Rattle.base_types.specs.Parts.{member_of}
use Rattle.base_types.specs.Stored.{stored}
use Rattle.base_types.specs.Texts.{◌>>=◌, text_at, filled_at, revision_at}
use Rattle.setup_file.specs.declared.setup.Tracked.{Tracked}
use Rattle.setup_file.specs.declared.setup.SnapshotObject.{SnapshotObject}

-- the `apiVersion` of a group's version: the core group is left out
abbrev pub api_version_of : List ℕ → List ℕ → List ℕ
api_version_of [] version = version
api_version_of (byte ∷ bytes) version = combined (byte ∷ bytes) version

-- the member is there with this text
abbrev pub has_text_at : List ℕ → List ℕ → Meaning → Bool
has_text_at name text tree = is_this (text_at name tree)
  where
    is_this : Option (List ℕ) → Bool
    is_this None = false
    is_this (Some found) = bytes_eq found text

abbrev pub has_no : List ℕ → Meaning → Bool
has_no name tree = is_none (member_of name tree)

-- `kind` and `apiVersion` are those of the resource, or both are absent, as in a list's items
abbrev pub is_of_kind : Tracked → Meaning → Bool
is_of_kind tracked tree =
    (has_text_at (codes "kind") tracked.kind tree && has_text_at (codes "apiVersion") (api_version_of tracked.group tracked.version) tree)
    || (has_no (codes "kind") tree && has_no (codes "apiVersion") tree)

-- the namespace of an object of the resource; that of a cluster-wide one is empty
abbrev pub namespace_in : Tracked → Meaning → Option (List ℕ)
namespace_in tracked metadata = if tracked.namespaced then text_at (codes "namespace") metadata else Some []

-- a path without the part takes each object
abbrev pub is_under : List ℕ → List ℕ → Bool
is_under [] own = true
is_under (byte ∷ bytes) own = bytes_eq (byte ∷ bytes) own

-- an object of a cluster-wide resource is under every namespace
abbrev pub is_in_namespace : Tracked → List ℕ → List ℕ → Bool
is_in_namespace tracked namespace own = if tracked.namespaced then is_under namespace own else true

-- the object of the resource that a tree is, under a path with that name and namespace
abbrev pub object_of : Tracked → List ℕ → List ℕ → Meaning → Option SnapshotObject
object_of tracked name namespace tree = do
  metadata ← member_of (codes "metadata") tree
  own_name ← filled_at (codes "name") metadata
  uid ← filled_at (codes "uid") metadata
  revision ← revision_at (codes "resourceVersion") metadata
  own_namespace ← namespace_in tracked metadata
  if is_of_kind tracked tree && is_under name own_name && is_in_namespace tracked namespace own_namespace
      then Some (record {
        key = record { group = tracked.group; resource = tracked.resource; namespace = own_namespace; name = own_name };
        revision = revision;
        uid = uid;
        tree = stored tree;
      })
      else None
