-- The keys that a whole list lacks are those of its scope without an item.
use Rattle.std.proofs.Common.{◌≡◌, true, Bor, List, map, Contains, ◌↔◌, ap, ◌∙◌, subst}
use Rattle.base_types.specs.declared.kubernetes.key.ObjectKey.{ObjectKey}
use Rattle.history_model.specs.Bounding.{IsAsked, Lacks}
use Rattle.history_model.specs.Events as model
use Rattle.history_model.specs.Histories as histories
use Rattle.history_model.specs.Histories.{History}
use Rattle.history_model.specs.Right.{IsAmong}
use Rattle.object_past.proofs.Repeated.{order_apart}
use Rattle.object_past.specs.Among.{keys_at}
use Rattle.object_past.specs.declared.version.Version.{Version}
use Rattle.object_past.specs.Indexed.{HasVersion}
use Rattle.object_past.specs.Modelled.{version_of}
use Rattle.object_past.specs.Past.{Recorded}
use Rattle.object_past.specs.Scopes.{AreInOrder, IsInScope}
use Rattle.write_groups.proofs.Lists.{map_from, map_has}
use Rattle.write_groups.specs.declared.event.Item.{Item}
use Rattle.write_groups.specs.declared.event.Listing.{Listing}
use Rattle.write_groups.specs.Modelled.{item_of, listing_of}
use Rattle.local_bounds.specs.Keys.{AreKeysOf}
use Rattle.local_bounds.specs.Known.{IsPastOf}
use Rattle.local_bounds.specs.Lacked.{AreLacked}

-- an item of the list has the key, in the terms of the model
some_item : (items : List Item) (key : ObjectKey) → IsAmong (map item_of items) key → Contains (map (λ item. item.key) items) key
some_item items key (item, c, e) = go (map_from item_of items item c)
  where
    go : (i : Item) × Contains items i × (item_of i ≡ item) → Contains (map (λ item. item.key) items) key
    go (i, d, s) = subst (Contains (map (λ item. item.key) items)) (ap (λ (z : model.Item). z.key) s ∙ e) (map_has (λ item. item.key) items i d)

item_some : (items : List Item) (key : ObjectKey) → Contains (map (λ item. item.key) items) key → IsAmong (map item_of items) key
item_some items key c = go (map_from (λ item. item.key) items key c)
  where
    go : (i : Item) × Contains items i × (i.key ≡ key) → IsAmong (map item_of items) key
    go (i, d, e) = (item_of i, map_has item_of items i d, e)

module _ (past : Recorded) (h : History) (p : IsPastOf past h) (listing : Listing) (scope : List ObjectKey) (whole : listing.whole ≡ true)
    (exact : (key : ObjectKey) → Contains scope key ↔ (HasVersion past.versions key × IsInScope listing.group listing.resource listing.namespace key)) where
  has_version : (key : ObjectKey) (v : histories.Version) → Contains h.versions v → v.key ≡ key → HasVersion past.versions key
  has_version key v c e = go (map_from version_of past.versions v (subst (λ vs. Contains vs v) p.recorded.versions c))
    where
      go : (w : Version) × Contains past.versions w × (version_of w ≡ v) → HasVersion past.versions key
      go (w, (k, l, at), s) = (k, w, l, at, ap (λ (z : histories.Version). z.key) s ∙ e)

  module _ (shown : List (Bor ObjectKey)) (are : AreKeysOf listing.items shown) (others : List ObjectKey) (rising : AreInOrder others)
      (apart : (key : ObjectKey) → Contains others key ↔ (Contains scope key × (Contains (keys_at shown) key → ⊥))) where
    sound : (key : ObjectKey) → Contains others key → IsAsked (listing_of listing) (Lacks key)
    sound key c = (
      whole,
      record { of_group = inside.of_group; of_resource = inside.of_resource; of_namespace = inside.of_namespace },
      λ s. held.1 ((are.exact key).1 (some_item listing.items key s)),
    )
      where
        held : Contains scope key × (Contains (keys_at shown) key → ⊥)
        held = (apart key).0 c

        inside : IsInScope listing.group listing.resource listing.namespace key
        inside = ((exact key).0 held.0).1

    pub lacked_is : AreLacked h (listing_of listing) others
    lacked_is = record {
      distinct = order_apart others rising;
      sound = sound;
      full = λ key v a c e. (apart key).1 (
        (exact key).1 (has_version key v c e, record { of_group = a.1.of_group; of_resource = a.1.of_resource; of_namespace = a.1.of_namespace }),
        λ there. a.2 (item_some listing.items key ((are.exact key).0 there)),
      );
    }
