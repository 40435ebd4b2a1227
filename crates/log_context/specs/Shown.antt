-- Answers, with the trees of their objects by the numbers that these have in a pool.
use Rattle.std.specs.Prelude.{◌≡◌, ℕ, Bool, true, List, Some, slice_get}
use Rattle.std.specs.List.{AllZip}
use Rattle.base_types.specs.declared.kubernetes.key.ObjectKey.{ObjectKey}
use Rattle.base_types.specs.Meaning.{Meaning}
use Rattle.setup_file.specs.declared.setup.Checkpoint.{Checkpoint}
use Rattle.setup_file.specs.declared.setup.SnapshotObject.{SnapshotObject}
use Rattle.answer_class.specs.declared.answer.Answer.{Answer}
use Rattle.answer_class.specs.declared.answer.Answer.TheVariants.{Made, Removed, Opaque, Saw, SawNone, SawSome, SawOther, Listed, Free, Aside}
use Rattle.write_groups.specs.declared.event.Item.{Item}
use Rattle.write_groups.specs.declared.event.Listing.{Listing}
use Rattle.write_groups.specs.declared.event.Shown.{Shown}
use Rattle.write_groups.specs.declared.event.Shown.TheVariants as shown

abbrev pub object_of : ObjectKey → ℕ → List ℕ → Meaning → SnapshotObject
object_of key revision uid tree = record { key = key; revision = revision; uid = uid; tree = tree }

-- the item is the object
pub record IsItemOf (trees : List Meaning) (object : SnapshotObject) (item : Item) : Type 0 where
  pub key : item.key ≡ object.key
  pub revision : item.revision ≡ object.revision
  pub uid : item.uid ≡ object.uid
  pub tree : slice_get trees item.node.0 ≡ Some object.tree

-- the items are the objects in their order
abbrev pub AreItemsOf : List Meaning → List SnapshotObject → List Item → Type 0
AreItemsOf trees objects items = AllZip (IsItemOf trees) objects items

-- the listing is a list of these objects, in this scope, at this revision
pub record IsListingOf (trees : List Meaning) (group resource namespace : List ℕ) (revision : ℕ) (whole : Bool) (objects : List SnapshotObject) (listing : Listing) : Type 0 where
  pub of_group : listing.group ≡ group
  pub of_resource : listing.resource ≡ resource
  pub of_namespace : listing.namespace ≡ namespace
  pub at_revision : listing.revision ≡ revision
  pub is_whole : listing.whole ≡ whole
  pub items : AreItemsOf trees objects listing.items

-- the selector of a list is kept elsewhere
abbrev pub IsShownAs : List Meaning → Answer → Shown → Type 0
IsShownAs trees (Made key revision uid tree created) is = (item : Item) × (is ≡ shown.Made item created) × IsItemOf trees (object_of key revision uid tree) item
IsShownAs trees (Removed key uid) is = is ≡ shown.Removed key uid
IsShownAs trees (Opaque cover) is = is ≡ shown.Opaque cover
IsShownAs trees (Saw key revision uid tree) is = (item : Item) × (is ≡ shown.Saw item) × IsItemOf trees (object_of key revision uid tree) item
IsShownAs trees (SawNone key) is = is ≡ shown.SawNone key
IsShownAs trees (SawSome key) is = is ≡ shown.SawSome key
IsShownAs trees (SawOther key) is = is ≡ shown.SawOther key
IsShownAs trees (Listed group resource namespace revision whole items selector) is =
    (listing : Listing) × (is ≡ shown.Listed listing) × IsListingOf trees group resource namespace revision whole items listing
IsShownAs trees Free is = is ≡ shown.Free
IsShownAs trees Aside is = is ≡ shown.Aside

-- a checkpoint is a whole list
abbrev pub IsShownByCheckpoint : List Meaning → Checkpoint → Shown → Type 0
IsShownByCheckpoint trees checkpoint is =
    (listing : Listing) × (is ≡ shown.Listed listing)
    × IsListingOf trees checkpoint.group checkpoint.resource checkpoint.namespace checkpoint.revision true checkpoint.items listing
