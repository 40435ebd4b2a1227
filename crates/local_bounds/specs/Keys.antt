-- The keys of a list's items.
use Rattle.std.specs.Prelude.{◌↔◌, List, map, Contains}
use Rattle.std.specs.Borrow.{Bor}
use Rattle.base_types.specs.declared.kubernetes.key.ObjectKey.{ObjectKey}
use Rattle.object_past.specs.Among.{keys_at}
use Rattle.object_past.specs.Scopes.{AreInOrder}
use Rattle.write_groups.specs.declared.event.Item.{Item}

-- the keys of the items, in order
pub record AreKeysOf (items : List Item) (keys : List (Bor ObjectKey)) : Type 0 where
  pub order : AreInOrder (keys_at keys)
  pub exact : (key : ObjectKey) → Contains (keys_at keys) key ↔ Contains (map (λ item. item.key) items) key
