-- Sorted keys stand in order exactly where no two of them are equal.
use Rattle.std.proofs.Common.{◌≡◌, ◌≢◌, ℕ, zero, suc, ◌+◌, ◌<◌, ◌≤◌, ⊎_elim, Bool, true, false, Decides, Bor, List, length, get_or, AllPairs, IsTrue, refl, sym, ap, ◌∙◌, subst, true≢false, [], ◌∷◌, arith}
use Rattle.std.specs.Cmp.{IsStrictWeakOrder}
use Rattle.std.specs.List.{AllAdjacentBelow, IsAllAdjacentAnswer}
use Rattle.std.specs.List.Sorted.{IsPermutation, IsSorted}
use Rattle.std.specs.Ordering.{eq_by_cmp, is_eq, is_lt}
use Rattle.std.specs.Prelude.{◌↔◌}
use Rattle.std.specs.declared.cmp.Ordering.TheVariants.{Less}
use Rattle.std.proofs.lemmas.Bool.{cases_lt}
use Rattle.std.proofs.lemmas.Cmp.{eq_by_cmp_equiv, tied_itself}
use Rattle.std.proofs.lemmas.List.{get_or-map, length-map}
use Rattle.std.proofs.lemmas.List.Sorted.{ranks_by, sorted_far}
use Rattle.std.proofs.lemmas.Map.Keys.{IsDistinct-IsPermutation}
use Rattle.std.proofs.lemmas.Map.Made.{AllPairs-from_IsDistinct, IsDistinct-from_AllPairs}
use Rattle.base_types.specs.declared.kubernetes.key.ObjectKey.{ObjectKey}
use Rattle.clouds.proofs.Adding.{key_order_total, same_key_from}
use Rattle.clouds.specs.Kept.{key_order}
use Rattle.object_past.proofs.Walking.{less_apart, less_back, is_less}
use Rattle.object_past.specs.Among.{keys_at}
use Rattle.object_past.specs.Scopes.{AreInOrder}

same_decides : (a b : ObjectKey) → Decides (eq_by_cmp key_order a b) (a ≡ b)
same_decides a b = (λ tied. same_key_from a b tied, λ e. subst (λ k. is_eq (key_order a k) ≡ true) e (ap is_eq (tied_itself key_order_total a)))

pub order_apart : (keys : List ObjectKey) → AreInOrder keys → AllPairs (λ a b. a ≢ b) keys
order_apart keys order = λ i j d l m. less_apart (get_or keys i d) (get_or keys j d) (order i j d l m)

-- equal keys stay equal where keys are moved
pub apart_moved : (given sorted : List ObjectKey) → IsPermutation given sorted → AllPairs (λ a b. a ≢ b) given → AllPairs (λ a b. a ≢ b) sorted
apart_moved given sorted same apart = AllPairs-from_IsDistinct same_decides sorted
    (IsDistinct-IsPermutation (eq_by_cmp key_order) (eq_by_cmp_equiv key_order_total).symm given sorted same (IsDistinct-from_AllPairs same_decides given apart))

some_key : (keys : List (Bor ObjectKey)) (i : ℕ) → i < length keys → Bor ObjectKey
some_key [] i l = absurd (omega arith)
some_key (key ∷ keys) i l = key

ranks : IsStrictWeakOrder (λ (a b : Bor ObjectKey). is_lt (key_order a.now b.now))
ranks = ranks_by key_order_total (λ (key : Bor ObjectKey). key.now)

module _ (keys : List (Bor ObjectKey)) where
  abbrev now : Bor ObjectKey → ObjectKey
  now key = key.now

  two_at : (i j : ℕ) (d : Bor ObjectKey) (e : ObjectKey) → i < length keys → j < length keys → key_order (get_or keys i d).now (get_or keys j d).now ≡ key_order (get_or (keys_at keys) i e) (get_or (keys_at keys) j e)
  two_at i j d e l m = ap (λ z. key_order z (get_or keys j d).now) (sym (get_or-map now keys i d e l)) ∙ ap (key_order (get_or (keys_at keys) i e)) (sym (get_or-map now keys j d e m))

  module _ (adjacent : AllAdjacentBelow (λ a b. true ≡ is_lt (key_order a.now b.now)) keys (length keys)) (d : Bor ObjectKey) (e : ObjectKey) where
    chain : (i j : ℕ) → i < j → j < length keys → key_order (get_or (keys_at keys) i e) (get_or (keys_at keys) j e) ≡ Less
    chain i zero l m = absurd (omega arith)
    chain i (suc j) l m = ⊎_elim
        (λ (less : i < j). key_order_total.trans (get_or (keys_at keys) i e) (get_or (keys_at keys) j e) (get_or (keys_at keys) (suc j) e) (chain i j less (omega arith)) next)
        (λ (over : j ≤ i). let here : j ≡ i = omega arith in subst (λ n. key_order (get_or (keys_at keys) n e) (get_or (keys_at keys) (suc j) e) ≡ Less) here next)
        (cases_lt i j)
      where
        next : key_order (get_or (keys_at keys) j e) (get_or (keys_at keys) (suc j) e) ≡ Less
        next =
            let here : j + 1 ≡ suc j = omega arith in
            sym (two_at j (suc j) d e (omega arith) m) ∙ is_less (key_order (get_or keys j d).now (get_or keys (suc j) d).now)
            (subst (λ n. is_lt (key_order (get_or keys j d).now (get_or keys n d).now) ≡ true) here (sym (adjacent j d (omega arith))))

  rising : AllAdjacentBelow (λ a b. true ≡ is_lt (key_order a.now b.now)) keys (length keys) → AreInOrder (keys_at keys)
  rising adjacent = λ i j e l m. chain adjacent (some_key keys i (omega (arith, l, m, length-map keys now))) e i j l (omega (arith, m, length-map keys now))

  not_rising : (k : ℕ) × (k + 1 < length keys) × ((d : Bor ObjectKey) → false ≡ is_lt (key_order (get_or keys k d).now (get_or keys (k + 1) d).now)) → AreInOrder (keys_at keys) → ⊥
  not_rising (k, l, falls) order =
      let d : Bor ObjectKey = some_key keys k (omega (arith, l)) in
      true≢false (sym (ap is_lt (two_at k (k + 1) d d.now (omega (arith, l)) l ∙ order k (k + 1) d.now (omega arith) (omega (arith, l, length-map keys now)))) ∙ sym (falls d))

  pub rising_is : (result : Bool) → IsAllAdjacentAnswer (λ a b answer. answer ≡ is_lt (key_order a.now b.now)) keys result → IsTrue result ↔ AreInOrder (keys_at keys)
  rising_is true told = ((λ t. rising told), (λ order. refl))
  rising_is false told = ((λ t. absurd (true≢false (sym t))), (λ order. absurd (not_rising told order)))

  -- sorted keys of which no two are equal
  pub sorted_order : IsSorted (λ a b. key_order a.now b.now) keys → AllPairs (λ a b. a ≢ b) (keys_at keys) → AreInOrder (keys_at keys)
  sorted_order sorted apart = λ i j e l m.
      let n : j < length keys = omega (arith, m, length-map keys now) in
      let d : Bor ObjectKey = some_key keys j n in
      less_back (get_or (keys_at keys) j e) (get_or (keys_at keys) i e) (λ same. apart i j e l m (sym same))
      (λ less. true≢false (sym (ap is_lt (two_at j i d e n (omega (arith, l, n)) ∙ less)) ∙ sorted_far (λ a b. is_lt (key_order a.now b.now)) ranks keys sorted i j d (omega (arith, l)) n))
