-- The keys of what is found.
use Rattle.std.proofs.Common.{◌≡◌, ◌<◌, List, length, Option, Some, None, refl, sym, subst, ap, arith}
use Rattle.std.specs.BTreeMap.{BTreeMap, get, keys, IsOrdered}
use Rattle.std.specs.List.{Contains}
use Rattle.std.specs.Ordering.{is_eq}
use Rattle.std.specs.Prelude.{◌↔◌, IsSome}
use Rattle.std.proofs.lemmas.Map.Keys.{Less-from_sorted}
use Rattle.std.proofs.lemmas.Map.Views.{btree_map_contains_key_iff}
use Rattle.base_types.specs.declared.kubernetes.key.ObjectKey.{ObjectKey}
use Rattle.clouds.proofs.Adding.{key_order_total, same_key_from}
use Rattle.clouds.specs.Kept.{key_order}
use Rattle.object_past.specs.Indexed.{AreFound, AreKeys, FoundByKey, HasVersion, found_in}
use Rattle.object_past.specs.Scopes.{AreInOrder}
use Rattle.object_past.specs.declared.entry.Entry.{Entry}
use Rattle.object_past.specs.declared.removal.Removal.{Removal}
use Rattle.object_past.specs.declared.version.Version.{Version}

pub AreInOrder-keys : (by_key : BTreeMap ObjectKey FoundByKey) (listed : List ObjectKey) → listed ≡ keys by_key → IsOrdered key_order by_key → AreInOrder listed
AreInOrder-keys by_key listed is ordered = subst AreInOrder (sym is) (λ i j d less within. Less-from_sorted key_order (keys by_key) i j d ordered less within)

pub Contains-listed : (by_key : BTreeMap ObjectKey FoundByKey) (listed : List ObjectKey) → listed ≡ keys by_key → (key : ObjectKey) → Contains listed key ↔ IsSome (get key_order by_key key)
Contains-listed by_key listed is key =
    let iff = btree_map_contains_key_iff key_order_total (λ a b tied. same_key_from a b (ap is_eq tied)) by_key key in
    (λ among. iff.1 (subst (λ l. Contains l key) is among), λ some. subst (λ l. Contains l key) (sym is) (iff.0 some))

some_found : (versions : List Version) (removals : List Removal) (by_key : BTreeMap ObjectKey FoundByKey) (key : ObjectKey) → AreFound versions removals by_key → HasVersion versions key → IsSome (get key_order by_key key)
some_found versions removals by_key key found any = go (get key_order by_key key) refl
  where
    go : (o : Option FoundByKey) → get key_order by_key key ≡ o → IsSome o
    go None is =
        let entry = (found.each key).entries.full any.1 (any.0, any.2, any.3) any.4 in
        let nowhere : entry.0 < 0 = subst (λ (l : List Entry). entry.0 < length l) (ap (λ (f : FoundByKey). f.entries) (ap found_in is)) entry.2 in
        absurd (omega arith)
    go (Some f) is = refl

pub AreKeys-found : (versions : List Version) (removals : List Removal) (by_key : BTreeMap ObjectKey FoundByKey) (listed : List ObjectKey) → AreInOrder listed
    → ((key : ObjectKey) → Contains listed key ↔ IsSome (get key_order by_key key)) → AreFound versions removals by_key → AreKeys versions listed
AreKeys-found versions removals by_key listed order exact found = record {
  rising = order;
  exact = λ key. (λ among. found.used key ((exact key).0 among), λ any. (exact key).1 (some_found versions removals by_key key found any));
}
