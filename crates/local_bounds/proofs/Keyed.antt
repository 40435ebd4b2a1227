-- The keys of items, in order.
use Rattle.std.proofs.Common.{◌≡◌, ◌≢◌, ◌↔◌, Bor, List, map, Option, Some, None, IfSome, IfNone, AllPairs, Contains, sym, subst}
use Rattle.base_types.specs.declared.kubernetes.key.ObjectKey.{ObjectKey}
use Rattle.object_past.specs.Among.{keys_at}
use Rattle.object_past.specs.Scopes.{AreInOrder}
use Rattle.write_groups.proofs.Lists.{pairs_map, pairs_unmap}
use Rattle.write_groups.specs.declared.event.Item.{Item}
use Rattle.local_bounds.specs.Keys.{AreKeysOf}

module _ {X : Type 0} (sorted : X → List (Bor ObjectKey)) (items : List Item) (keys : List (Bor ObjectKey)) (same : keys_at keys ≡ map (λ item. item.key) items) where
  pub keys_some : (found : Option X) → IfSome found (λ x. AreInOrder (keys_at (sorted x))) → IfSome found (λ x. (key : ObjectKey) → Contains (keys_at (sorted x)) key ↔ Contains (keys_at keys) key)
      → IfSome found (λ x. AllPairs (λ a b. a ≢ b) (keys_at keys)) → IfSome found (λ x. AllPairs (λ a b. a.key ≢ b.key) items × AreKeysOf items (sorted x))
  keys_some None order exact distinct = tt
  keys_some (Some x) order exact distinct = (
    pairs_unmap (λ (item : Item). item.key) (λ a b. a ≢ b) items (subst (AllPairs (λ a b. a ≢ b)) same distinct),
    record { order = order; exact = λ key. subst (λ l. Contains (keys_at (sorted x)) key ↔ Contains l key) same (exact key) },
  )

  pub keys_none : (found : Option X) → IfNone found (AllPairs (λ a b. a ≢ b) (keys_at keys) → ⊥) → IfNone found (AllPairs (λ a b. a.key ≢ b.key) items → ⊥)
  keys_none None none = λ apart. none (subst (AllPairs (λ a b. a ≢ b)) (sym same) (pairs_map (λ (item : Item). item.key) (λ a b. a ≢ b) items apart))
  keys_none (Some x) none = tt
