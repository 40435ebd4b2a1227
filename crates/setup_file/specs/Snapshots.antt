-- The objects that were there when the log began.
use Rattle.std.specs.Prelude.{ℕ, Bool, true, ◌&&◌, ◌==◌, List, [], ◌∷◌, Option, Some, None, map, nat_le, is_some, bytes_eq, codes, if◌then◌else◌}
use Rattle.std.specs.List.{list_all}
use Rattle.base_types.specs.Meaning.{Meaning}
use Rattle.base_types.specs.Parts.{member_of}
use Rattle.base_types.specs.Stored.{stored}
use Rattle.base_types.specs.Texts.{◌>>=◌, text_at, filled_at, revision_at}
use Rattle.setup_file.specs.declared.setup.Tracked.{Tracked}
use Rattle.setup_file.specs.declared.setup.SnapshotObject.{SnapshotObject}
use Rattle.setup_file.specs.Distinct.{are_distinct, key_eq}
use Rattle.setup_file.specs.Forms.{is_form}
use Rattle.setup_file.specs.Objects.{has_text_at, has_no}
use Rattle.setup_file.specs.Resources.{tracked_as}

-- an object of a namespaced resource has a namespace, and one of a cluster-wide resource has none
abbrev pub own_namespace : Tracked → Meaning → Option (List ℕ)
own_namespace tracked metadata =
    if tracked.namespaced then filled_at (codes "namespace") metadata
    else (if is_some (filled_at (codes "namespace") metadata) then None else Some [])

-- `kind` may be absent
abbrev pub may_be_kind : Tracked → Meaning → Bool
may_be_kind tracked tree = if has_no (codes "kind") tree then true else has_text_at (codes "kind") tracked.kind tree

abbrev pub snapshot_object_of : Tracked → Meaning → Option SnapshotObject
snapshot_object_of tracked tree = do
  metadata ← member_of (codes "metadata") tree
  name ← filled_at (codes "name") metadata
  uid ← filled_at (codes "uid") metadata
  revision ← revision_at (codes "resourceVersion") metadata
  namespace ← own_namespace tracked metadata
  if may_be_kind tracked tree
      then Some (record {
        key = record { group = tracked.group; resource = tracked.resource; namespace = namespace; name = name };
        revision = revision;
        uid = uid;
        tree = stored tree;
      })
      else None

abbrev pub snapshot_entry_of : List Tracked → Meaning → Option SnapshotObject
snapshot_entry_of resources tree = if is_form (codes "group" ∷ codes "resource" ∷ codes "object" ∷ []) tree then (do
  group ← text_at (codes "group") tree
  resource ← text_at (codes "resource") tree
  tracked ← tracked_as resources group resource
  object ← member_of (codes "object") tree
  snapshot_object_of tracked object)
    else None

abbrev pub snapshot_in : List Tracked → List Meaning → Option (List SnapshotObject)
snapshot_in resources [] = Some []
snapshot_in resources (tree ∷ trees) = do
  object ← snapshot_entry_of resources tree
  objects ← snapshot_in resources trees
  Some (object ∷ objects)

-- no two objects have one key, uid or revision, and none is above the start
abbrev pub are_at_start : ℕ → List SnapshotObject → Bool
are_at_start start objects =
    are_distinct key_eq (map (λ object. object.key) objects)
    && are_distinct bytes_eq (map (λ object. object.uid) objects)
    && are_distinct (λ a b. a == b) (map (λ object. object.revision) objects)
    && list_all (λ object. nat_le object.revision start) objects
