-- The objects that recorded writes changed, once they are sorted.
use Rattle.std.proofs.Common.{◌≡◌, ◌≢◌, ◌<◌, ◌⊎◌, inl, inr, true, false, List, [], ◌∷◌, get_or, map, Option, Some, None, AllPairs, Any, Contains, refl, sym, ◌∙◌, subst, ap, true≢false, arith}
use Rattle.std.specs.BTreeMap.{BTreeMap, IsOrdered, get, keys}
use Rattle.std.specs.Cmp.{IsStrictWeakOrder, nat_cmp_total}
use Rattle.std.specs.List.{IsDistinct}
use Rattle.std.specs.List.Sorted.{IsPermutation, IsSorted}
use Rattle.std.specs.Ordering.{eq_by_cmp, is_eq, is_lt, nat_cmp, ordering_reverse}
use Rattle.std.specs.Prelude.{Decides, IsSome}
use Rattle.std.specs.declared.cmp.Ordering.{Ordering}
use Rattle.std.specs.declared.cmp.Ordering.TheVariants.{Less, Equal, Greater}
use Rattle.std.proofs.lemmas.Cmp.{back_total, eq_by_cmp_equiv, on_total, then_total, tied_itself}
use Rattle.std.proofs.lemmas.List.Sorted.{Contains-permutation, IsPermutation-map, IsPermutation-sym, ranks_by, sorted_far}
use Rattle.std.proofs.lemmas.Map.Keys.{IsDistinct-IsPermutation, IsDistinct-from_sorted}
use Rattle.std.proofs.lemmas.Map.Made.{AllPairs-from_IsDistinct}
use Rattle.std.proofs.lemmas.Map.Views.{btree_map_get_iff}
use Rattle.base_types.proofs.Quantifiers.{Any-contains}
use Rattle.base_types.specs.declared.kubernetes.key.ObjectKey.{ObjectKey}
use Rattle.base_types.proofs.Orderings.{nat_less, then_less, then_next}
use Rattle.clouds.proofs.Adding.{key_order_total, same_key_from}
use Rattle.clouds.specs.Kept.{key_order}
use Rattle.history_model.proofs.JudgingLemmas.{numbers}
use Rattle.history_model.proofs.Members.{all_from}
use Rattle.log_picture.specs.Changes.{AreChanges, IsListedBefore, tally, tally_in}
use Rattle.log_picture.specs.Tallied.{AreTallied, changed_as}
use Rattle.log_picture.specs.contracts.changed.ChangedOrd.TheImpl as changed_ord
use Rattle.log_picture.specs.declared.changed.Changed.{Changed}
use Rattle.log_picture.specs.declared.tallies.Tally.{Tally}
use Rattle.object_past.specs.declared.version.Version.{Version}
use Rattle.write_groups.proofs.Lists.{map_from, map_has, pairs_unmap}

-- by count, the greatest first, and then by key; no two have one key
abbrev change_order : Changed → Changed → Ordering
change_order = (changed_ord.ghosts).cmp

ranks : IsStrictWeakOrder (λ a b. is_lt (change_order a b))
ranks = ranks_by (then_total (on_total (λ (c : Changed). c.count.0) (back_total nat_cmp_total)) (then_total (on_total (λ (c : Changed). c.key) key_order_total)
    (then_total (on_total (λ (c : Changed). c.first) nat_cmp_total) (on_total (λ (c : Changed). c.last) nat_cmp_total)))) (λ c. c)

same_decides : (a b : ObjectKey) → Decides (eq_by_cmp key_order a b) (a ≡ b)
same_decides a b = (λ tied. same_key_from a b tied, λ e. subst (λ k. is_eq (key_order a k) ≡ true) e (ap is_eq (tied_itself key_order_total a)))

-- two keys that differ
keys_order : (a b : ObjectKey) → a ≢ b → (key_order a b ≡ Less) ⊎ (key_order b a ≡ Less)
keys_order a b differs = go (key_order a b) refl
  where
    go : (o : Ordering) → key_order a b ≡ o → (key_order a b ≡ Less) ⊎ (key_order b a ≡ Less)
    go Less e = inl e
    go Equal e = absurd (differs (same_key_from a b (ap is_eq e)))
    go Greater e = inr (key_order_total.antisymm b a ∙ ap ordering_reverse e)

more_first : (a b : Changed) → b.count.0 < a.count.0 → is_lt (change_order a b) ≡ true
more_first a b l = then_less (nat_cmp b.count.0 a.count.0) _ (nat_less b.count.0 a.count.0 l)

key_first : (a b : Changed) → a.count.0 ≡ b.count.0 → key_order a.key b.key ≡ Less → is_lt (change_order a b) ≡ true
key_first a b e l = then_next (nat_cmp b.count.0 a.count.0) _ (ap (nat_cmp b.count.0) e ∙ tied_itself nat_cmp_total b.count.0) (then_less (key_order a.key b.key) _ l)

before : (a b : Changed) → a.key ≢ b.key → is_lt (change_order b a) ≡ false → IsListedBefore a b
before a b differs not = go (numbers a.count.0 b.count.0)
  where
    by : a.count.0 ≡ b.count.0 → (key_order a.key b.key ≡ Less) ⊎ (key_order b.key a.key ≡ Less) → IsListedBefore a b
    by e (inl l) = inr (e, l)
    by e (inr l) = absurd (true≢false (sym (key_first b a (sym e) l) ∙ not))

    go : (a.count.0 < b.count.0) ⊎ (b.count.0 < a.count.0) ⊎ (a.count.0 ≡ b.count.0) → IsListedBefore a b
    go (inl l) = absurd (true≢false (sym (more_first b a l) ∙ not))
    go (inr (inl l)) = inl l
    go (inr (inr e)) = by e (keys_order a.key b.key differs)

module _ (versions : List Version) (tallies : BTreeMap ObjectKey Tally) (are : AreTallied versions tallies) (ordered : IsOrdered key_order tallies)
    (sorted : List Changed) (same : IsPermutation (map changed_as tallies.entries) sorted) (in_order : IsSorted change_order sorted) where
  found : (key : ObjectKey) (t : Tally) → (get key_order tallies key ≡ Some t → Contains tallies.entries (key, t)) × (Contains tallies.entries (key, t) → get key_order tallies key ≡ Some t)
  found key t = btree_map_get_iff key_order_total (λ a b tied. same_key_from a b (ap is_eq tied)) tallies ordered key t

  told : (c : Changed) → Contains sorted c → tally versions c.key ≡ Some (tally_in c)
  told c within = go (map_from changed_as tallies.entries c (Contains-permutation sorted (map changed_as tallies.entries) c (IsPermutation-sym (map changed_as tallies.entries) sorted same) within))
    where
      go : (entry : ObjectKey × Tally) × Contains tallies.entries entry × (changed_as entry ≡ c) → tally versions c.key ≡ Some (tally_in c)
      go (entry, among, is) = subst (λ (x : Changed). tally versions x.key ≡ Some (tally_in x)) is (sym (are entry.0) ∙ (found entry.0 entry.1).1 among)

  whole : (key : ObjectKey) → IsSome (tally versions key) → Any (λ (c : Changed). c.key ≡ key) sorted
  whole key some = go (get key_order tallies key) refl
    where
      go : (o : Option Tally) → get key_order tallies key ≡ o → Any (λ (c : Changed). c.key ≡ key) sorted
      go None e = absurd (let none = subst IsSome (sym (are key) ∙ e) some in cc none)
      go (Some t) e = Any-contains (λ (c : Changed). c.key ≡ key) sorted (changed_as (key, t))
          (Contains-permutation (map changed_as tallies.entries) sorted (changed_as (key, t)) same (map_has changed_as tallies.entries (key, t) ((found key t).0 e))) refl

  keys_are : (entries : List (ObjectKey × Tally)) → map (λ (c : Changed). c.key) (map changed_as entries) ≡ map (λ (e : ObjectKey × Tally). e.0) entries
  keys_are [] = refl
  keys_are (e ∷ es) = ap (λ l. e.0 ∷ l) (keys_are es)

  distinct : IsDistinct (eq_by_cmp key_order) (map (λ (c : Changed). c.key) (map changed_as tallies.entries))
  distinct = subst (IsDistinct (eq_by_cmp key_order)) (sym (keys_are tallies.entries)) (IsDistinct-from_sorted key_order (keys tallies) ordered)

  apart : AllPairs (λ (a b : Changed). a.key ≢ b.key) sorted
  apart = pairs_unmap (λ (c : Changed). c.key) (λ a b. a ≢ b) sorted
      (AllPairs-from_IsDistinct same_decides (map (λ (c : Changed). c.key) sorted)
      (IsDistinct-IsPermutation (eq_by_cmp key_order) (eq_by_cmp_equiv key_order_total).symm (map (λ (c : Changed). c.key) (map changed_as tallies.entries)) (map (λ (c : Changed). c.key) sorted)
      (IsPermutation-map (λ (c : Changed). c.key) (map changed_as tallies.entries) sorted same) distinct))

  pub changes_are : AreChanges versions sorted
  changes_are = record {
    each = all_from (λ (c : Changed). tally versions c.key ≡ Some (tally_in c)) sorted told;
    whole = whole;
    order = λ i j d l m. before (get_or sorted i d) (get_or sorted j d) (apart i j d l m) (sorted_far (λ a b. is_lt (change_order a b)) ranks sorted in_order i j d (omega arith) m);
  }
