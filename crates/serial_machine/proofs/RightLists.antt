-- When a list is right on what a scene shows.
use Rattle.std.proofs.Common.{◌≡◌, ◌≢◌, ℕ, ◌==◌, true, Bor, List, map, find, Option, Some, None, IsSome, All, AllPairs, Contains, inr, refl, sym, ap, ◌∙◌, subst}
use Rattle.std.specs.Prelude.{option_and_then}
use Rattle.std.specs.BTreeMap.{get}
use Rattle.base_types.specs.Keys.{same_key}
use Rattle.base_types.specs.declared.kubernetes.key.ObjectKey.{ObjectKey}
use Rattle.clouds.specs.Kept.{key_order}
use Rattle.history_model.proofs.KeyLemmas.{key_decides, key_is}
use Rattle.history_model.proofs.Latest.{latest_is}
use Rattle.history_model.proofs.Members.{all_at, all_from}
use Rattle.history_model.proofs.Steps.{in_filter}
use Rattle.history_model.proofs.WordLemmas.{found_in, not_found}
use Rattle.history_model.specs.Events as model
use Rattle.history_model.specs.Histories as histories
use Rattle.history_model.specs.Histories.{History}
use Rattle.history_model.specs.Right.{InScope, IsAmong, IsLacked, IsListed, IsListRight, IsUnlistable}
use Rattle.history_model.specs.States.{Map, latest, IsLatest}
use Rattle.object_past.specs.Indexed.{HasVersion}
use Rattle.object_past.specs.Modelled.{version_of}
use Rattle.object_past.specs.Past.{Recorded}
use Rattle.object_past.specs.declared.version.Version.{Version}
use Rattle.write_groups.proofs.Lists.{map_from, map_has, pairs_map, pairs_unmap}
use Rattle.write_groups.specs.Modelled.{item_of, listing_of}
use Rattle.write_groups.specs.declared.event.Item.{Item}
use Rattle.write_groups.specs.declared.event.Listing.{Listing}
use Rattle.serial_machine.specs.Held.{HasRooms, held, is_unmade, unmade, or_else, objects_upto}
use Rattle.serial_machine.specs.Listed.{AreUnshown}
use Rattle.serial_machine.specs.declared.machine.Machine.{Machine}

-- no object is there of a key that never has one
pub none_there : (h : History) (machine : Machine) (upto : ℕ) (key : ObjectKey) → HasRooms h machine.objects
    → ((v : histories.Version) → Contains h.versions v → v.key ≡ key → ⊥) → objects_upto h machine upto key ≡ None
none_there h machine upto key rooms none = go (latest (unmade h machine.place upto) key upto) (latest_is (unmade h machine.place upto) key upto) (get key_order machine.objects key) refl
  where
    go : (o : Option histories.Version) → IsLatest (unmade h machine.place upto) key upto o → (g : Option (Option ℕ)) → get key_order machine.objects key ≡ g
        → or_else o (option_and_then (λ revision. find (λ (v : histories.Version). v.revision == revision) h.versions) (held g)) ≡ None
    go (Some v) is g e = absurd (none v (in_filter (is_unmade machine.place upto) h.versions v is.0).0 is.1)
    go None is None e = refl
    go None is (Some revision) e = absurd (at ((rooms key).0 (subst (λ o. IsSome o) (sym e) refl)))
      where
        at : (v : histories.Version) × Contains h.versions v × (v.key ≡ key) → ⊥
        at (v, c, k) = none v c k

module _ (h : History) (number place : ℕ) (objects : Map) (listing : Listing) where
  abbrev AreAllListed : Type 0
  AreAllListed = All (λ (item : Item). IsListed h number place (item_of item) (objects item.key)) listing.items

  abbrev AreAllLacked : Type 0
  AreAllLacked = (key : ObjectKey) → InScope (listing_of listing) key → (IsAmong (map item_of listing.items) key → ⊥) → IsLacked h number place key (objects key)

  pub listed_of : IsListRight h number (listing_of listing) place objects → AreAllListed
  listed_of right = all_from (λ (item : Item). IsListed h number place (item_of item) (objects item.key)) listing.items (λ item c. right.shows (item_of item) (map_has item_of listing.items item c))

  pub distinct_of : IsListRight h number (listing_of listing) place objects → AllPairs (λ a b. a.key ≢ b.key) listing.items
  distinct_of right = pairs_unmap item_of (λ a b. a.key ≢ b.key) listing.items right.distinct

  pub right_of : place ≡ listing.revision → AllPairs (λ a b. a.key ≢ b.key) listing.items → AreAllListed → (listing.whole ≡ true → AreAllLacked) → IsListRight h number (listing_of listing) place objects
  right_of at distinct listed lacked = record {
    at_revision = at;
    distinct = pairs_map item_of (λ a b. a.key ≢ b.key) listing.items distinct;
    shows = λ item c. shown item (map_from item_of listing.items item c);
    lacks = lacked;
  }
    where
      shown : (item : model.Item) → (i : Item) × Contains listing.items i × (item_of i ≡ item) → IsListed h number place item (objects item.key)
      shown item (i, c, e) = subst (λ (z : model.Item). IsListed h number place z (objects z.key)) e (all_at (λ (item : Item). IsListed h number place (item_of item) (objects item.key)) listing.items i listed c)

  module _ (past : Recorded) (recorded : h.versions ≡ map version_of past.versions) (none : (key : ObjectKey) → ((v : histories.Version) → Contains h.versions v → v.key ≡ key → ⊥) → objects key ≡ None)
      (others : List (Bor ObjectKey)) (are : AreUnshown past listing others) where
    abbrev AreOthersLacked : Type 0
    AreOthersLacked = All (λ (key : Bor ObjectKey). IsLacked h number place key.now (objects key.now)) others

    pub others_of : AreAllLacked → AreOthersLacked
    others_of lacked = all_from (λ (key : Bor ObjectKey). IsLacked h number place key.now (objects key.now)) others (λ key c.
        let held = (are key.now).0 (map_has (λ (k : Bor ObjectKey). k.now) others key c) in
        let inside = held.1 in
        lacked key.now (record { of_group = inside.of_group; of_resource = inside.of_resource; of_namespace = inside.of_namespace }) held.2)

    pub lacked_of : AreOthersLacked → AreAllLacked
    lacked_of all key inside n = go (find (λ (v : histories.Version). same_key v.key key) h.versions) refl
      where
        has : (v : histories.Version) → Contains h.versions v → v.key ≡ key → HasVersion past.versions key
        has v c e = by (map_from version_of past.versions v (subst (λ vs. Contains vs v) recorded c))
          where
            by : (w : Version) × Contains past.versions w × (version_of w ≡ v) → HasVersion past.versions key
            by (w, (k, l, at), s) = (k, w, l, at, ap (λ (z : histories.Version). z.key) s ∙ e)

        other : (k : Bor ObjectKey) × Contains others k × (k.now ≡ key) → IsLacked h number place key (objects key)
        other (k, c, e) = subst (λ z. IsLacked h number place z (objects z)) e (all_at (λ (key : Bor ObjectKey). IsLacked h number place key.now (objects key.now)) others k all c)

        go : (o : Option histories.Version) → find (λ (v : histories.Version). same_key v.key key) h.versions ≡ o → IsLacked h number place key (objects key)
        go None e = inr (subst (λ o. IsUnlistable h number o) (sym (none key (λ v c k. not_found (λ (v : histories.Version). same_key v.key key) h.versions e v c (key_is v.key key k)))) tt)
        go (Some v) e = other (map_from (λ (k : Bor ObjectKey). k.now) others key ((are key).1 (
          has v found.0 ((key_decides v.key key).0 found.1),
          record { of_group = inside.of_group; of_resource = inside.of_resource; of_namespace = inside.of_namespace },
          n,
        )))
          where
            found : Contains h.versions v × (same_key v.key key ≡ true)
            found = found_in (λ (v : histories.Version). same_key v.key key) h.versions v e
