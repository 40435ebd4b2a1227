-- The objects of a snapshot and of lists are sound.
use Rattle.std.proofs.Common.{◌≡◌, ◌≢◌, ◌↔◌, ℕ, ◌≤◌, nat_le, Bool, true, false, ◌&&◌, ◌==◌, List, [], ◌∷◌, length, map, Some, None, Ok, refl, sym, subst, ◌∙◌, cond, inl, inr, bytes_eq, is_some, codes, true≢false}
use Rattle.std.specs.List.{All, list_all}
use Rattle.std.proofs.lemmas.Bool.{and_parts, leb-true}
use Rattle.std.proofs.lemmas.List.Elements.{All-nil, All-cons}
use Rattle.base_types.specs.Meaning.{Meaning}
use Rattle.base_types.specs.Parts.{member_of, items_of}
use Rattle.base_types.specs.Stored.{stored}
use Rattle.base_types.specs.Values.{InRange}
use Rattle.setup_file.specs.declared.fault.SetupRule.TheVariants.{S12, S13}
use Rattle.setup_file.specs.declared.setup.SnapshotObject.{SnapshotObject}
use Rattle.setup_file.specs.declared.setup.Tracked.{Tracked}
use Rattle.setup_file.specs.Distinct.{are_distinct, key_eq}
use Rattle.base_types.specs.Texts.{text_at, non_empty, filled_at, revision_at}
use Rattle.setup_file.specs.Forms.{is_form}
use Rattle.setup_file.specs.Reading.{chained, snapshot_at}
use Rattle.setup_file.specs.Resources.{tracked_as}
use Rattle.setup_file.specs.Snapshots.{own_namespace, may_be_kind, snapshot_object_of, snapshot_entry_of, snapshot_in, are_at_start}
use Rattle.setup_file.specs.Sound.{IsObject, AreAtStart, AreInRange}
use Rattle.setup_file.specs.Steps.{or_breaks}
use Rattle.setup_file.proofs.Apart.{bytes_tell, numbers_tell, keys_tell, distinct_apart}
use Rattle.base_types.proofs.Found.{same_some, found_both, where_true, either}
use Rattle.setup_file.proofs.Chains.{same_kept, chained_both, kept_both, not_broken, test_kept}
use Rattle.setup_file.proofs.Gathered.{gathered_all, gathered_length}
use Rattle.setup_file.proofs.InRange.{member_in_range, items_in_range, stored_in_range}
use Rattle.setup_file.proofs.SoundResources.{tracked_as_itself}

not_empty : (found text : List ℕ) → non_empty found ≡ Some text → text ≡ [] → ⊥
not_empty [] text e empty = cc
not_empty (byte ∷ bytes) text e empty = cc

filled : (name : List ℕ) (tree : Meaning) (text : List ℕ) → filled_at name tree ≡ Some text → text ≡ [] → ⊥
filled name tree text e = let found = found_both (text_at name tree) non_empty text e in not_empty found.0 text found.2

no_namespace : (given : Bool) (namespace : List ℕ) → cond given None (Some []) ≡ Some namespace → namespace ≡ []
no_namespace true namespace e = absurd (cc)
no_namespace false namespace e = cc

-- a namespace is there where its resource is namespaced
own_namespace_is : (tracked : Tracked) (metadata : Meaning) (namespace : List ℕ) → own_namespace tracked metadata ≡ Some namespace → (tracked.namespaced ≡ true) ↔ (namespace ≢ [])
own_namespace_is tracked metadata namespace e =
    let given = is_some (filled_at (codes "namespace") metadata) in
    elim (either tracked.namespaced (filled_at (codes "namespace") metadata) (cond given None (Some [])) (Some namespace) e) [
      | inl inside ↦ (λ yes. filled (codes "namespace") metadata namespace inside.1, λ there. inside.0)
      | inr outside ↦ (λ yes. absurd (true≢false (sym yes ∙ outside.0)), λ there. absurd (there (no_namespace given namespace outside.1)))
    ]

-- what is known of an object that was read of a tree
pub record IsReadOf (tracked : Tracked) (whole : Meaning) (object : SnapshotObject) : Type 0 where
  pub group : tracked.group ≡ object.key.group
  pub resource : tracked.resource ≡ object.key.resource
  pub namespace : (tracked.namespaced ≡ true) ↔ (object.key.namespace ≢ [])
  pub name : object.key.name ≢ []
  pub uid : object.uid ≢ []
  pub tree : stored whole ≡ object.tree

object_is_read : (tracked : Tracked) (tree : Meaning) (object : SnapshotObject) → snapshot_object_of tracked tree ≡ Some object → IsReadOf tracked tree object
object_is_read tracked tree object e =
    let metadata = found_both (member_of (codes "metadata") tree) _ object e in
    let name = found_both (filled_at (codes "name") metadata.0) _ object metadata.2 in
    let uid = found_both (filled_at (codes "uid") metadata.0) _ object name.2 in
    let revision = found_both (revision_at (codes "resourceVersion") metadata.0) _ object uid.2 in
    let namespace = found_both (own_namespace tracked metadata.0) _ object revision.2 in
    let kind = where_true (may_be_kind tracked tree) _ object namespace.2 in
    subst (IsReadOf tracked tree) (same_some _ object kind.1) (record {
      group = refl;
      resource = refl;
      namespace = own_namespace_is tracked metadata.0 namespace.0 namespace.1;
      name = filled (codes "name") metadata.0 name.0 name.1;
      uid = filled (codes "uid") metadata.0 uid.0 uid.1;
      tree = refl;
    })

-- an object of the snapshot
pub record IsSoundEntry (resources : List Tracked) (object : SnapshotObject) : Type 0 where
  pub object_is : IsObject resources object
  pub range : InRange object.tree

entry_is_sound : (resources : List Tracked) (tree : Meaning) (object : SnapshotObject) → InRange tree → snapshot_entry_of resources tree ≡ Some object → IsSoundEntry resources object
entry_is_sound resources tree object range e =
    let form = where_true (is_form (codes "group" ∷ codes "resource" ∷ codes "object" ∷ []) tree) _ object e in
    let group = found_both (text_at (codes "group") tree) _ object form.1 in
    let resource = found_both (text_at (codes "resource") tree) _ object group.2 in
    let tracked = found_both (tracked_as resources group.0 resource.0) _ object resource.2 in
    let value = found_both (member_of (codes "object") tree) _ object tracked.2 in
    let read = object_is_read tracked.0 value.0 object value.2 in
    let itself = tracked_as_itself resources group.0 resource.0 tracked.0 tracked.1 in
    let there = subst (λ r. tracked_as resources object.key.group r ≡ Some tracked.0) read.resource
    (subst (λ g. tracked_as resources g tracked.0.resource ≡ Some tracked.0) read.group itself) in
    record {
      object_is = record { tracked = (tracked.0, there, read.namespace); name = read.name; uid = read.uid };
      range = subst InRange read.tree (stored_in_range value.0 (member_in_range (codes "object") tree value.0 range value.1));
    }

all_begun : (start : ℕ) (objects : List SnapshotObject) → list_all (λ object. nat_le object.revision start) objects ≡ true → All (λ object. object.revision ≤ start) objects
all_begun start [] are = All-nil (λ (object : SnapshotObject). object.revision ≤ start)
all_begun start (object ∷ objects) are =
    let parts = and_parts (nat_le object.revision start) (list_all (λ (other : SnapshotObject). nat_le other.revision start) objects) are in
    All-cons (λ (other : SnapshotObject). other.revision ≤ start) object objects (leb-true object.revision start parts.0) (all_begun start objects parts.1)

at_start : (start : ℕ) (resources : List Tracked) (objects : List SnapshotObject) → All (IsSoundEntry resources) objects → are_at_start start objects ≡ true → AreAtStart start resources objects
at_start start resources objects all are =
    let keys : Bool = are_distinct key_eq (map (λ (object : SnapshotObject). object.key) objects) in
    let uids : Bool = are_distinct bytes_eq (map (λ (object : SnapshotObject). object.uid) objects) in
    let revisions : Bool = are_distinct (λ a b. a == b) (map (λ (object : SnapshotObject). object.revision) objects) in
    let begun : Bool = list_all (λ (object : SnapshotObject). nat_le object.revision start) objects in
    let four = and_parts (keys && uids && revisions) begun are in
    let three = and_parts (keys && uids) revisions four.0 in
    let two = and_parts keys uids three.0 in
    record {
      tracked = λ i d within. (all i d within).object_is;
      keys = distinct_apart key_eq (λ (object : SnapshotObject). object.key) keys_tell objects two.0;
      uids = distinct_apart bytes_eq (λ (object : SnapshotObject). object.uid) bytes_tell objects two.1;
      revisions = distinct_apart (λ a b. a == b) (λ (object : SnapshotObject). object.revision) numbers_tell objects three.1;
      begun = all_begun start objects four.1;
    }

pub record IsSoundSnapshot (start : ℕ) (resources : List Tracked) (objects : List SnapshotObject) : Type 0 where
  pub there : AreAtStart start resources objects
  pub range : AreInRange objects

pub snapshot_is_sound : (start : ℕ) (resources : List Tracked) (tree : Meaning) (objects : List SnapshotObject) → InRange tree → snapshot_at start resources tree ≡ Ok objects
    → IsSoundSnapshot start resources objects
snapshot_is_sound start resources tree objects range e =
    let trees = kept_both (or_breaks S12 (chained (member_of (codes "snapshot") tree) items_of)) _ objects e in
    let found = kept_both (or_breaks S12 (snapshot_in resources trees.0)) _ objects trees.2 in
    let apart = test_kept S13 (are_at_start start found.0) (Ok found.0) objects found.2 in
    let list = chained_both (member_of (codes "snapshot") tree) items_of trees.0 (not_broken S12 _ trees.0 trees.1) in
    let inside = items_in_range list.0 trees.0 (member_in_range (codes "snapshot") tree list.0 range list.1) list.2 in
    let all = gathered_all (snapshot_entry_of resources) (snapshot_in resources) refl (λ x xs. refl) InRange (IsSoundEntry resources) (entry_is_sound resources) trees.0 found.0 inside
    (not_broken S12 _ found.0 found.1) in
    subst (IsSoundSnapshot start resources) (same_kept found.0 objects apart.1) (record {
      there = at_start start resources found.0 all apart.0;
      range = λ i d within. (all i d within).range;
    })

-- the snapshot has as many objects as its list has items
pub snapshot_is_few : (start : ℕ) (resources : List Tracked) (tree : Meaning) (objects : List SnapshotObject) (most : ℕ)
    → ((list : Meaning) (trees : List Meaning) → member_of (codes "snapshot") tree ≡ Some list → items_of list ≡ Some trees → length trees ≤ most)
    → snapshot_at start resources tree ≡ Ok objects → length objects ≤ most
snapshot_is_few start resources tree objects most few e =
    let trees = kept_both (or_breaks S12 (chained (member_of (codes "snapshot") tree) items_of)) _ objects e in
    let found = kept_both (or_breaks S12 (snapshot_in resources trees.0)) _ objects trees.2 in
    let apart = test_kept S13 (are_at_start start found.0) (Ok found.0) objects found.2 in
    let list = chained_both (member_of (codes "snapshot") tree) items_of trees.0 (not_broken S12 _ trees.0 trees.1) in
    let long = gathered_length (snapshot_entry_of resources) (snapshot_in resources) refl (λ x xs. refl) trees.0 found.0 (not_broken S12 _ found.0 found.1) in
    subst (λ (all : List SnapshotObject). length all ≤ most) (same_kept found.0 objects apart.1)
    (subst (λ n. n ≤ most) (sym long) (few list.0 trees.0 list.1 list.2))
