-- Lists of objects (Kubernetes API concepts, "Collections").
use Rattle.std.specs.Prelude.{ℕ, Bool, true, false, not, List, [], ◌∷◌, Option, Some, None, codes, if◌then◌else◌}
use Rattle.base_types.specs.Meaning.{Meaning}
use Rattle.base_types.specs.Parts.{member_of, text_of, is_null}
use Rattle.base_types.specs.Texts.{◌>>=◌, items_or_none, revision_at}
use Rattle.setup_file.specs.declared.lists.ListRead.{ListRead}
use Rattle.setup_file.specs.declared.setup.Tracked.{Tracked}
use Rattle.setup_file.specs.declared.setup.SnapshotObject.{SnapshotObject}
use Rattle.setup_file.specs.Objects.{has_text_at, object_of}

-- the object that each tree is
abbrev pub objects_in : Tracked → List ℕ → List ℕ → List Meaning → Option (List SnapshotObject)
objects_in tracked name namespace [] = Some []
objects_in tracked name namespace (tree ∷ trees) = do
  object ← object_of tracked name namespace tree
  objects ← objects_in tracked name namespace trees
  Some (object ∷ objects)

-- the text is empty
abbrev pub is_blank : Option (List ℕ) → Bool
is_blank None = false
is_blank (Some []) = true
is_blank (Some (byte ∷ bytes)) = false

-- whether the list goes on: its `continue` isn't absent, null or empty
abbrev pub goes_on : Option Meaning → Bool
goes_on None = false
goes_on (Some tree) = if is_null tree then false else not (is_blank (text_of tree))

abbrev pub list_with : Tracked → List ℕ → List ℕ → Meaning → Meaning → Option ListRead
list_with tracked name namespace metadata tree = do
  revision ← revision_at (codes "resourceVersion") metadata
  trees ← items_or_none (member_of (codes "items") tree)
  objects ← objects_in tracked name namespace trees
  Some (record { revision = revision; rest = goes_on (member_of (codes "continue") metadata); items = objects })

-- the answer to a list request that a tree is, under a path with that name and namespace
abbrev pub list_of : Tracked → List ℕ → List ℕ → Meaning → Option ListRead
list_of tracked name namespace tree = do
  metadata ← member_of (codes "metadata") tree
  if has_text_at (codes "kind") tracked.list_kind tree then list_with tracked name namespace metadata tree else None
