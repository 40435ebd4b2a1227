-- What an answer shows stays the same while the pool grows.
use Rattle.std.proofs.Common.{◌≡◌, ℕ, ◌+◌, ◌<◌, Bool, true, List, [], ◌∷◌, ◌++◌, length, get_or, take, sym, subst}
use Rattle.std.proofs.lemmas.Slice.Zip.{all_zipped_more}
use Rattle.base_types.specs.Meaning.{Meaning}
use Rattle.node_pool.specs.Subtrees.{Begins}
use Rattle.node_pool.proofs.Fronts.{slice_get-Begins}
use Rattle.setup_file.specs.declared.setup.Checkpoint.{Checkpoint}
use Rattle.setup_file.specs.declared.setup.SnapshotObject.{SnapshotObject}
use Rattle.answer_class.specs.declared.answer.Answer.{Answer}
use Rattle.answer_class.specs.declared.answer.Answer.TheVariants.{Made, Removed, Opaque, Saw, SawNone, SawSome, SawOther, Listed, Free, Aside}
use Rattle.write_groups.specs.declared.event.Item.{Item}
use Rattle.write_groups.specs.declared.event.Listing.{Listing}
use Rattle.write_groups.specs.declared.event.Shown.{Shown}
use Rattle.log_context.proofs.PoolLemmas.{more_taken}
use Rattle.log_context.specs.Shown.{IsItemOf, AreItemsOf, IsListingOf, IsShownAs, IsShownByCheckpoint, object_of}

pub item_stays : (old new : List Meaning) → Begins old new → (object : SnapshotObject) (item : Item) → IsItemOf old object item → IsItemOf new object item
item_stays old new begins object item is = record {
  key = is.key;
  revision = is.revision;
  uid = is.uid;
  tree = slice_get-Begins old new item.node.0 object.tree begins is.tree;
}

pub items_stay : (old new : List Meaning) → Begins old new → (objects : List SnapshotObject) (items : List Item) → AreItemsOf old objects items → AreItemsOf new objects items
items_stay old new begins [] [] are = tt
items_stay old new begins [] (item ∷ items) are = are
items_stay old new begins (object ∷ objects) [] are = are
items_stay old new begins (object ∷ objects) (item ∷ items) are = (item_stays old new begins object item are.0, items_stay old new begins objects items are.1)

listing_stays : (old new : List Meaning) → Begins old new → (group resource namespace : List ℕ) (revision : ℕ) (whole : Bool) (objects : List SnapshotObject) (listing : Listing)
    → IsListingOf old group resource namespace revision whole objects listing → IsListingOf new group resource namespace revision whole objects listing
listing_stays old new begins group resource namespace revision whole objects listing is = record {
  of_group = is.of_group;
  of_resource = is.of_resource;
  of_namespace = is.of_namespace;
  at_revision = is.at_revision;
  is_whole = is.is_whole;
  items = items_stay old new begins objects listing.items is.items;
}

pub shown_stays : (old new : List Meaning) → Begins old new → (answer : Answer) (shown : Shown) → IsShownAs old answer shown → IsShownAs new answer shown
shown_stays old new begins (Made key revision uid tree created) shown is = (is.0, is.1, item_stays old new begins (object_of key revision uid tree) is.0 is.2)
shown_stays old new begins (Removed key uid) shown is = is
shown_stays old new begins (Opaque cover) shown is = is
shown_stays old new begins (Saw key revision uid tree) shown is = (is.0, is.1, item_stays old new begins (object_of key revision uid tree) is.0 is.2)
shown_stays old new begins (SawNone key) shown is = is
shown_stays old new begins (SawSome key) shown is = is
shown_stays old new begins (SawOther key) shown is = is
shown_stays old new begins (Listed group resource namespace revision whole objects selector) shown is =
    (is.0, is.1, listing_stays old new begins group resource namespace revision whole objects is.0 is.2)
shown_stays old new begins Free shown is = is
shown_stays old new begins Aside shown is = is

pub checkpoint_stays : (old new : List Meaning) → Begins old new → (checkpoint : Checkpoint) (shown : Shown) → IsShownByCheckpoint old checkpoint shown → IsShownByCheckpoint new checkpoint shown
checkpoint_stays old new begins checkpoint shown is =
    (is.0, is.1, listing_stays old new begins checkpoint.group checkpoint.resource checkpoint.namespace checkpoint.revision true checkpoint.items is.0 is.2)

pub items_more : (old new : List Meaning) → Begins old new → (objects : List SnapshotObject) (items : List Item) (i : ℕ) (object : SnapshotObject) (item : Item)
    → i < length objects → object ≡ get_or objects i object → AreItemsOf old (take i objects) items → IsItemOf new object item → AreItemsOf new (take (i + 1) objects) (items ++ item ∷ [])
items_more old new begins objects items i object item within at are is =
    subst (λ l. AreItemsOf new l (items ++ item ∷ [])) (sym (more_taken objects i object within at))
    (all_zipped_more (IsItemOf new) (take i objects) items object item (items_stay old new begins (take i objects) items are) is)
