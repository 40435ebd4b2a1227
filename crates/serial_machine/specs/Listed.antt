-- The keys of a list's items, and those that it doesn't show.
use Rattle.std.specs.Prelude.{◌↔◌, List, map, Contains}
use Rattle.std.specs.Borrow.{Bor}
use Rattle.base_types.specs.declared.kubernetes.key.ObjectKey.{ObjectKey}
use Rattle.history_model.specs.Right.{IsAmong}
use Rattle.object_past.specs.Among.{keys_at}
use Rattle.object_past.specs.Indexed.{HasVersion}
use Rattle.object_past.specs.Past.{Recorded}
use Rattle.object_past.specs.Scopes.{AreInOrder, IsInScope}
use Rattle.write_groups.specs.Modelled.{item_of}
use Rattle.write_groups.specs.declared.event.Item.{Item}
use Rattle.write_groups.specs.declared.event.Listing.{Listing}

-- the keys of the items, in order
pub record AreShown (items : List Item) (shown : List (Bor ObjectKey)) : Type 0 where
  pub order : AreInOrder (keys_at shown)
  pub exact : (key : ObjectKey) → Contains (keys_at shown) key ↔ Contains (map (λ item. item.key) items) key

-- the keys that have a version, that the list is about, and that it doesn't show
abbrev pub AreUnshown : Recorded → Listing → List (Bor ObjectKey) → Type 0
AreUnshown past listing keys = (key : ObjectKey) → Contains (keys_at keys) key
    ↔ (HasVersion past.versions key × IsInScope listing.group listing.resource listing.namespace key × (IsAmong (map item_of listing.items) key → ⊥))
