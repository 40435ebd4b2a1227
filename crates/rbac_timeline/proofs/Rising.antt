-- Keys that are kept in order.
use Rattle.std.proofs.Common.{◌≡◌, ℕ, zero, suc, ◌+◌, ◌<◌, ◌≤◌, inl, true, List, [], ◌∷◌, length, get_or, refl, ◌∙◌, ap, arith}
use Rattle.std.specs.List.{AllPairs, Contains, HoldsAt, insert}
use Rattle.std.specs.List.Sorted.{IsNonDecreasingBy, IsPartitionPoint, IsSortedBy}
use Rattle.std.specs.Ordering.{is_eq, is_lt, ordering_index, ordering_reverse}
use Rattle.std.specs.declared.cmp.Ordering.{Ordering}
use Rattle.std.specs.declared.cmp.Ordering.TheVariants.{Equal, Greater, Less}
use Rattle.std.proofs.lemmas.List.Elements.{All-cons}
use Rattle.std.proofs.lemmas.List.Kept.{AllPairs-cons}
use Rattle.std.proofs.lemmas.List.Sorted.{All-permutation, IsPermutation-insert, searchable_from_sorted}
use Rattle.base_types.specs.declared.kubernetes.key.ObjectKey.{ObjectKey}
use Rattle.clouds.proofs.Adding.{Grows, Grows-permuted, key_order_total, same_key_from}
use Rattle.clouds.specs.Kept.{key_order}
use Rattle.rbac_timeline.specs.Index.{AreRising}
use Rattle.rbac_timeline.specs.Indexed.{HasOneMore}

before_in : {X : Type 0} (R : X → X → Type 0) (xs : List X) (n : ℕ) (x : X) → n ≤ length xs → AllPairs R xs → ((k : ℕ) (d : X) → k < n → k < length xs → R (get_or xs k d) x)
    → ((k : ℕ) (d : X) → n ≤ k → k < length xs → R x (get_or xs k d)) → AllPairs R (insert xs n x)
before_in R xs zero x within rising front behind = AllPairs-cons R x xs (λ k d among. behind k d (omega arith) among) rising
before_in R [] (suc n) x within rising front behind = absurd (omega arith)
before_in R (y ∷ xs) (suc n) x within rising front behind = AllPairs-cons R y (insert xs n x)
    (All-permutation (R y) (x ∷ xs) (insert xs n x) (IsPermutation-insert xs n x) (All-cons (R y) x xs (front 0 y (omega arith) (omega arith)) (λ k d among. rising 0 (suc k) d (omega arith) (omega arith))))
    (before_in R xs n x (omega arith) (λ i j d less among. rising (suc i) (suc j) d (omega arith) (omega arith)) (λ k d less among. front (suc k) d (omega arith) (omega arith))
    (λ k d from among. behind (suc k) d (omega arith) (omega arith)))

turned : (a b : ObjectKey) (o p : Ordering) → key_order a b ≡ o → ordering_reverse o ≡ p → key_order b a ≡ p
turned a b o p is back = key_order_total.antisymm b a ∙ ap ordering_reverse is ∙ back

sorted_from_rising : (keys : List ObjectKey) → AreRising keys → IsSortedBy (λ a b. is_lt (key_order a b)) keys
sorted_from_rising keys rising = λ k d low within.
    ap is_lt (turned (get_or keys k d) (get_or keys (k + 1) d) Less Greater (rising k (k + 1) d (omega arith) within) refl)

equal_from : (o : Ordering) → o ≡ Equal → is_eq o ≡ true
equal_from o is = ap is_eq is

-- a key that a search finds is among the keys
pub found_key : (keys : List ObjectKey) (key : ObjectKey) (n : ℕ) → n < length keys → HoldsAt (λ k. key_order k key ≡ Equal) keys n → Contains keys key
found_key keys key n within tied =
    let is : get_or keys n key ≡ key = same_key_from (get_or keys n key) key (equal_from _ (tied key)) in
    (n, within, is)

pub HasOneMore-same : {X : Type 0} (xs : List X) (x : X) → Contains xs x → HasOneMore xs xs x
HasOneMore-same xs x among = record { kept = λ y there. there; added = among; only = λ y there. inl there }

-- a key that isn't found is put in its place
pub AreRising-insert : (keys : List ObjectKey) (key : ObjectKey) (n : ℕ) → n ≤ length keys → AreRising keys
    → (IsNonDecreasingBy (λ k. ordering_index (key_order k key)) keys → IsPartitionPoint (λ k. key_order k key ≡ Less) (λ k. key_order k key ≡ Greater) keys n) → AreRising (insert keys n key)
AreRising-insert keys key n within rising searched =
    let parts = searched (searchable_from_sorted key_order_total (λ k. k) keys key (sorted_from_rising keys rising)) in
    before_in (λ a b. key_order a b ≡ Less) keys n key within rising
    (λ k d less among. parts.0 k d (omega arith) less)
    (λ k d from among. turned (get_or keys k d) key Greater Less (parts.1 k d from among) refl)

pub HasOneMore-grows : {X : Type 0} (xs ys : List X) (x : X) → Grows xs ys x → HasOneMore xs ys x
HasOneMore-grows xs ys x grows = record { kept = grows.kept; added = grows.added; only = grows.only }

pub Grows-more : {X : Type 0} (xs ys : List X) (x : X) → HasOneMore xs ys x → Grows xs ys x
Grows-more xs ys x more = record { kept = more.kept; added = more.added; only = more.only }

pub HasOneMore-insert : {X : Type 0} (xs : List X) (n : ℕ) (x : X) → HasOneMore xs (insert xs n x) x
HasOneMore-insert xs n x = HasOneMore-grows xs (insert xs n x) x (Grows-permuted xs (insert xs n x) x (IsPermutation-insert xs n x))
