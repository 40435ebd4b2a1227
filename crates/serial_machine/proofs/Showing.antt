-- The keys that a list shows, and those that it doesn't.
use Rattle.std.proofs.Common.{◌≡◌, ◌≢◌, ◌↔◌, Bor, List, map, Option, Some, None, IfSome, IfNone, AllPairs, Contains, sym, ap, ◌∙◌, subst}
use Rattle.std.specs.Prelude.{Result, Ok, Err, IfOk}
use Rattle.base_types.specs.declared.kubernetes.key.ObjectKey.{ObjectKey}
use Rattle.history_model.specs.Events as model
use Rattle.history_model.specs.Right.{IsAmong}
use Rattle.object_past.specs.Among.{keys_at}
use Rattle.object_past.specs.Indexed.{HasVersion}
use Rattle.object_past.specs.Past.{Recorded}
use Rattle.object_past.specs.Scopes.{AreInOrder, IsInScope}
use Rattle.write_groups.proofs.Lists.{map_from, map_has, pairs_map, pairs_unmap}
use Rattle.write_groups.specs.Modelled.{item_of}
use Rattle.write_groups.specs.declared.event.Item.{Item}
use Rattle.write_groups.specs.declared.event.Listing.{Listing}
use Rattle.serial_machine.specs.Listed.{AreShown, AreUnshown}

module _ {X : Type 0} (sorted : X → List (Bor ObjectKey)) (items : List Item) (keys : List (Bor ObjectKey)) (same : keys_at keys ≡ map (λ item. item.key) items) where
  pub keys_some : (found : Option X) → IfSome found (λ x. AreInOrder (keys_at (sorted x))) → IfSome found (λ x. (key : ObjectKey) → Contains (keys_at (sorted x)) key ↔ Contains (keys_at keys) key)
      → IfSome found (λ x. AllPairs (λ a b. a ≢ b) (keys_at keys)) → IfSome found (λ x. AllPairs (λ a b. a.key ≢ b.key) items × AreShown items (sorted x))
  keys_some None order exact distinct = tt
  keys_some (Some x) order exact distinct = (
    pairs_unmap (λ (item : Item). item.key) (λ a b. a ≢ b) items (subst (AllPairs (λ a b. a ≢ b)) same distinct),
    record { order = order; exact = λ key. subst (λ l. Contains (keys_at (sorted x)) key ↔ Contains l key) same (exact key) },
  )

  pub keys_none : (found : Option X) → IfNone found (AllPairs (λ a b. a ≢ b) (keys_at keys) → ⊥) → IfNone found (AllPairs (λ a b. a.key ≢ b.key) items → ⊥)
  keys_none None none = λ apart. none (subst (AllPairs (λ a b. a ≢ b)) (sym same) (pairs_map (λ (item : Item). item.key) (λ a b. a ≢ b) items apart))
  keys_none (Some x) none = tt

-- an item of the list has the key, in the terms of the model
some_item : (items : List Item) (key : ObjectKey) → IsAmong (map item_of items) key → Contains (map (λ item. item.key) items) key
some_item items key (item, c, e) = go (map_from item_of items item c)
  where
    go : (i : Item) × Contains items i × (item_of i ≡ item) → Contains (map (λ item. item.key) items) key
    go (i, d, s) = subst (Contains (map (λ item. item.key) items)) (ap (λ (z : model.Item). z.key) s ∙ e) (map_has (λ item. item.key) items i d)

item_some : (items : List Item) (key : ObjectKey) → Contains (map (λ item. item.key) items) key → IsAmong (map item_of items) key
item_some items key c = go (map_from (λ item. item.key) items key c)
  where
    go : (i : Item) × Contains items i × (i.key ≡ key) → IsAmong (map item_of items) key
    go (i, d, e) = (item_of i, map_has item_of items i d, e)

module _ (past : Recorded) (listing : Listing) (scope : List ObjectKey) (shown : List (Bor ObjectKey)) (are : AreShown listing.items shown)
    (exact : (key : ObjectKey) → Contains scope key ↔ (HasVersion past.versions key × IsInScope listing.group listing.resource listing.namespace key)) where
  pub unshown : {X Y : Type 0} (read : X → List (Bor ObjectKey)) (found : Result X Y) → IfOk found (λ x. (key : ObjectKey) → Contains (keys_at (read x)) key ↔ (Contains scope key × (Contains (keys_at shown) key → ⊥)))
      → IfOk found (λ x. AreUnshown past listing (read x))
  unshown read (Err e) apart = tt
  unshown read (Ok x) apart = λ key. (
    (λ c. let held = (apart key).0 c in let inside = (exact key).0 held.0 in (inside.0, inside.1, λ s. held.1 ((are.exact key).1 (some_item listing.items key s)))),
    (λ held. (apart key).1 ((exact key).1 (held.0, held.1), λ there. held.2 (item_some listing.items key ((are.exact key).0 there)))),
  )
