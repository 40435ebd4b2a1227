-- The checkpoints of a setup are sound.
use Rattle.std.proofs.Common.{◌≡◌, ℕ, ◌+◌, nat_le, ◌&&◌, ◌||◌, not, List, [], ◌∷◌, ◌++◌, length, Option, Some, None, refl, subst, cond, inl, inr, decimal, codes}
use Rattle.std.specs.List.{All}
use Rattle.std.proofs.lemmas.Bool.{and_parts, leb-true}
use Rattle.std.proofs.lemmas.List.Elements.{All-nil, All-cons, All-head, All-tail}
use Rattle.base_types.specs.Meaning.{Meaning}
use Rattle.base_types.specs.Parts.{member_of, items_of, is_null}
use Rattle.base_types.specs.Values.{InRange}
use Rattle.setup_file.specs.declared.lists.ListRead.{ListRead}
use Rattle.setup_file.specs.declared.setup.Checkpoint.{Checkpoint}
use Rattle.setup_file.specs.declared.setup.SnapshotObject.{SnapshotObject}
use Rattle.setup_file.specs.declared.setup.Tracked.{Tracked}
use Rattle.setup_file.specs.Checkpoints.{is_no_text, is_whole_at, checkpoint_of, checkpoints_from, few_checkpoints, checkpoints_of}
use Rattle.base_types.specs.Texts.{text_at, items_or_none, filled_at, revision_at}
use Rattle.setup_file.specs.Forms.{is_form}
use Rattle.setup_file.specs.Lists.{objects_in, list_with, list_of}
use Rattle.setup_file.specs.Objects.{has_text_at, is_of_kind, namespace_in, is_under, is_in_namespace, object_of}
use Rattle.setup_file.specs.Resources.{tracked_as}
use Rattle.setup_file.specs.Sound.{AreInRange, IsLaterList}
use Rattle.base_types.proofs.Found.{same_some, found_both, where_true, either}
use Rattle.setup_file.proofs.Gathered.{taken, gathered_all}
use Rattle.setup_file.proofs.InRange.{member_in_range, items_in_range, stored_in_range}

pub object_in_range : (tracked : Tracked) (name namespace : List ℕ) (tree : Meaning) (object : SnapshotObject) → InRange tree → object_of tracked name namespace tree ≡ Some object → InRange object.tree
object_in_range tracked name namespace tree object range e =
    let metadata = found_both (member_of (codes "metadata") tree) _ object e in
    let own_name = found_both (filled_at (codes "name") metadata.0) _ object metadata.2 in
    let uid = found_both (filled_at (codes "uid") metadata.0) _ object own_name.2 in
    let revision = found_both (revision_at (codes "resourceVersion") metadata.0) _ object uid.2 in
    let own_namespace = found_both (namespace_in tracked metadata.0) _ object revision.2 in
    let fits = where_true (is_of_kind tracked tree && is_under name own_name.0 && is_in_namespace tracked namespace own_namespace.0) _ object own_namespace.2 in
    subst (λ (found : SnapshotObject). InRange found.tree) (same_some _ object fits.1) (stored_in_range tree range)

pub trees_in_range : (member : Option Meaning) (trees : List Meaning) → ((tree : Meaning) → member ≡ Some tree → InRange tree) → items_or_none member ≡ Some trees → All InRange trees
trees_in_range None trees range e = subst (All InRange) (same_some [] trees e) (All-nil InRange)
trees_in_range (Some tree) trees range e =
    elim (either (is_null tree) (Some []) (items_of tree) (Some trees) e) [
      | inl none ↦ subst (All InRange) (same_some [] trees none.1) (All-nil InRange)
      | inr some ↦ items_in_range tree trees (range tree refl) some.1
    ]

pub list_in_range : (tracked : Tracked) (name namespace : List ℕ) (tree : Meaning) (list : ListRead) → InRange tree → list_of tracked name namespace tree ≡ Some list → AreInRange list.items
list_in_range tracked name namespace tree list range e =
    let metadata = found_both (member_of (codes "metadata") tree) _ list e in
    let kind = where_true (has_text_at (codes "kind") tracked.list_kind tree) (list_with tracked name namespace metadata.0 tree) list metadata.2 in
    let revision = found_both (revision_at (codes "resourceVersion") metadata.0) _ list kind.1 in
    let trees = found_both (items_or_none (member_of (codes "items") tree)) _ list revision.2 in
    let objects = found_both (objects_in tracked name namespace trees.0) _ list trees.2 in
    let inside = trees_in_range (member_of (codes "items") tree) trees.0 (λ items. member_in_range (codes "items") tree items range) trees.1 in
    subst (λ (found : ListRead). AreInRange found.items) (same_some _ list objects.2)
    (gathered_all (object_of tracked name namespace) (objects_in tracked name namespace) refl (λ x xs. refl) InRange (λ (object : SnapshotObject). InRange object.tree)
    (object_in_range tracked name namespace) trees.0 objects.0 inside objects.1)

-- a list that fits is one of a checkpoint
fit_is_later : (start : ℕ) (resources : List Tracked) (number : ℕ) (group resource namespace : List ℕ) (tracked : Tracked) (list : ListRead) (checkpoint : Checkpoint)
    → tracked_as resources group resource ≡ Some tracked → AreInRange list.items
    → cond ((is_no_text namespace || tracked.namespaced) && is_whole_at start list)
    (Some (record { name = codes "checkpoint:" ++ decimal number; group = group; resource = resource; namespace = namespace; revision = list.revision; items = list.items })) None
    ≡ Some checkpoint
    → IsLaterList start resources checkpoint
fit_is_later start resources number group resource namespace tracked list checkpoint found range e =
    let fits = where_true ((is_no_text namespace || tracked.namespaced) && is_whole_at start list) _ checkpoint e in
    let whole = and_parts (is_no_text namespace || tracked.namespaced) (is_whole_at start list) fits.0 in
    let later = and_parts (not list.rest) (nat_le start list.revision) whole.1 in
    subst (IsLaterList start resources) (same_some _ checkpoint fits.1) (record { tracked = (tracked, found); later = leb-true start list.revision later.1; trees = range })

checkpoint_is_later : (start : ℕ) (resources : List Tracked) (number : ℕ) (tree : Meaning) (checkpoint : Checkpoint) → InRange tree → checkpoint_of start resources number tree ≡ Some checkpoint
    → IsLaterList start resources checkpoint
checkpoint_is_later start resources number tree checkpoint range e =
    let form = where_true (is_form (codes "group" ∷ codes "resource" ∷ codes "namespace" ∷ codes "list" ∷ []) tree) _ checkpoint e in
    let group = found_both (text_at (codes "group") tree) _ checkpoint form.1 in
    let resource = found_both (text_at (codes "resource") tree) _ checkpoint group.2 in
    let namespace = found_both (text_at (codes "namespace") tree) _ checkpoint resource.2 in
    let tracked = found_both (tracked_as resources group.0 resource.0) _ checkpoint namespace.2 in
    let value = found_both (member_of (codes "list") tree) _ checkpoint tracked.2 in
    let list = found_both (list_of tracked.0 [] namespace.0 value.0) _ checkpoint value.2 in
    let inside = list_in_range tracked.0 [] namespace.0 value.0 list.0 (member_in_range (codes "list") tree value.0 range value.1) list.1 in
    fit_is_later start resources number group.0 resource.0 namespace.0 tracked.0 list.0 checkpoint tracked.1 inside list.2

checkpoints_are_later : (start : ℕ) (resources : List Tracked) (number : ℕ) (trees : List Meaning) (checkpoints : List Checkpoint) → All InRange trees
    → checkpoints_from start resources number trees ≡ Some checkpoints → All (IsLaterList start resources) checkpoints
checkpoints_are_later start resources number [] checkpoints range e = subst (All (IsLaterList start resources)) (same_some [] checkpoints e) (All-nil (IsLaterList start resources))
checkpoints_are_later start resources number (tree ∷ trees) checkpoints range e =
    let made = taken (checkpoint_of start resources number tree) (checkpoints_from start resources (number + 1) trees) checkpoints e in
    subst (All (IsLaterList start resources)) made.4
    (All-cons (IsLaterList start resources) made.0 made.1 (checkpoint_is_later start resources number tree made.0 (All-head InRange tree trees range) made.2)
    (checkpoints_are_later start resources (number + 1) trees made.1 (All-tail InRange tree trees range) made.3))

pub all_are_later : (start : ℕ) (resources : List Tracked) (member : Option Meaning) (checkpoints : List Checkpoint) → ((tree : Meaning) → member ≡ Some tree → InRange tree)
    → checkpoints_of start resources member ≡ Some checkpoints → All (IsLaterList start resources) checkpoints
all_are_later start resources None checkpoints range e = subst (All (IsLaterList start resources)) (same_some [] checkpoints e) (All-nil (IsLaterList start resources))
all_are_later start resources (Some list) checkpoints range e =
    let trees = found_both (items_of list) _ checkpoints e in
    let few = found_both (few_checkpoints trees.0) _ checkpoints trees.2 in
    let count = where_true (nat_le (length trees.0) 10_000) (Some trees.0) few.0 few.1 in
    let inside = subst (All InRange) (same_some trees.0 few.0 count.1) (items_in_range list trees.0 (range list refl) trees.1) in
    checkpoints_are_later start resources 1 few.0 checkpoints inside few.2
