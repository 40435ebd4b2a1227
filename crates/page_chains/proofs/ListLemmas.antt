-- What a list was read of: its revision is that of the metadata, and its items are those of the tree.
use Rattle.std.proofs.Common.{◌≡◌, ℕ, List, Some, subst, codes}
use Rattle.base_types.specs.Meaning.{Meaning}
use Rattle.base_types.specs.Parts.{member_of}
use Rattle.base_types.specs.Texts.{revision_at, items_or_none}
use Rattle.setup_file.specs.Lists.{objects_in, list_with, list_of}
use Rattle.setup_file.specs.Objects.{has_text_at}
use Rattle.setup_file.specs.declared.lists.ListRead.{ListRead}
use Rattle.setup_file.specs.declared.setup.Tracked.{Tracked}
use Rattle.base_types.proofs.Found.{same_some, found_both, where_true}

pub record IsReadOf (tracked : Tracked) (name namespace : List ℕ) (tree : Meaning) (list : ListRead) : Type 0 where
  pub metadata : Meaning
  pub has : member_of (codes "metadata") tree ≡ Some metadata
  pub revision : revision_at (codes "resourceVersion") metadata ≡ Some list.revision
  pub trees : List Meaning
  pub listed : items_or_none (member_of (codes "items") tree) ≡ Some trees
  pub objects : objects_in tracked name namespace trees ≡ Some list.items

pub list_is_read : (tracked : Tracked) (name namespace : List ℕ) (tree : Meaning) (list : ListRead) → list_of tracked name namespace tree ≡ Some list → IsReadOf tracked name namespace tree list
list_is_read tracked name namespace tree list e =
    let metadata = found_both (member_of (codes "metadata") tree) _ list e in
    let kind = where_true (has_text_at (codes "kind") tracked.list_kind tree) (list_with tracked name namespace metadata.0 tree) list metadata.2 in
    let revision = found_both (revision_at (codes "resourceVersion") metadata.0) _ list kind.1 in
    let trees = found_both (items_or_none (member_of (codes "items") tree)) _ list revision.2 in
    let objects = found_both (objects_in tracked name namespace trees.0) _ list trees.2 in
    subst (IsReadOf tracked name namespace tree) (same_some _ list objects.2) (record {
      metadata = metadata.0;
      has = metadata.1;
      revision = revision.1;
      trees = trees.0;
      listed = trees.1;
      objects = objects.1;
    })
