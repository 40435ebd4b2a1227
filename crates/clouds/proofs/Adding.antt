-- Maps of lists, to which one item after another is added.
use Rattle.std.proofs.Common.{◌≡◌, ℕ, zero, suc, ◌<◌, ◌⊎◌, ⊎_elim, inl, inr, true, false, Option, Some, List, [], ◌∷◌, ◌++◌, length, get_or, refl, sym, ◌∙◌, subst, ap, arith}
use Rattle.std.specs.BTreeMap.{BTreeMap, Updates, get}
use Rattle.std.specs.Cmp.{IsTotalOrder}
use Rattle.std.specs.HashMap.Eq.{lookup_congr}
use Rattle.std.specs.List.{Contains}
use Rattle.std.specs.List.Sorted.{IsPermutation}
use Rattle.std.specs.Ordering.{eq_by_cmp, is_eq, ordering_then}
use Rattle.std.specs.declared.cmp.Ordering.{Ordering}
use Rattle.std.specs.declared.cmp.Ordering.TheVariants.{Equal, Greater, Less}
use Rattle.std.proofs.lemmas.Bool.{cases_Bool, cond-false, cond-true}
use Rattle.std.proofs.lemmas.Cmp.{eq_by_cmp_equiv, nat_list_cmp_total, on_total, then_total}
use Rattle.std.proofs.lemmas.List.Elements.{Contains-append_left, Contains-push, Contains-push_cases}
use Rattle.std.proofs.lemmas.List.Sorted.{Contains-permutation, IsPermutation-sym}
use Rattle.std.proofs.lemmas.Map.Lookups.{exact_bytes}
use Rattle.base_types.specs.declared.kubernetes.key.ObjectKey.{ObjectKey}
use Rattle.base_types.proofs.KeyLemmas.{key_from_parts}
use Rattle.clouds.specs.Items.{AddsAt, items_at, items_of}
use Rattle.clouds.specs.Kept.{key_order, text_order}
use Rattle.clouds.specs.Recorded.{Adds}

-- a list has one item more
pub record Grows {X : Type 0} (old new : List X) (item : X) : Type 0 where
  pub kept : (x : X) → Contains old x → Contains new x
  pub added : Contains new item
  pub only : (x : X) → Contains new x → Contains old x ⊎ (x ≡ item)

pub Grows-push : {X : Type 0} (xs : List X) (x : X) → Grows xs (xs ++ x ∷ []) x
Grows-push xs x = record {
  kept = λ y among. Contains-append_left xs (x ∷ []) y among;
  added = Contains-push xs x;
  only = λ y among. ⊎_elim inl (λ is. inr (sym is)) (Contains-push_cases xs x y among);
}

Contains-cons_cases : {X : Type 0} (x y : X) (xs : List X) → Contains (x ∷ xs) y → (x ≡ y) ⊎ Contains xs y
Contains-cons_cases {X} x y xs among = go among.0 among.1 among.2
  where
    go : (k : ℕ) → k < length (x ∷ xs) → get_or (x ∷ xs) k y ≡ y → (x ≡ y) ⊎ Contains xs y
    go zero within is = inl is
    go (suc k) within is = inr (k, omega arith, is)

pub Grows-permuted : {X : Type 0} (xs ys : List X) (x : X) → IsPermutation (x ∷ xs) ys → Grows xs ys x
Grows-permuted xs ys x same = record {
  kept = λ y among. Contains-permutation (x ∷ xs) ys y same (suc among.0, (let within = among.1 in omega arith), among.2);
  added = Contains-permutation (x ∷ xs) ys x same (0, omega arith, refl);
  only = λ y among. ⊎_elim (λ is. inr (sym is)) inl (Contains-cons_cases x y xs (Contains-permutation ys (x ∷ xs) y (IsPermutation-sym (x ∷ xs) ys same) among));
}

-- lists that are read from the entries of a map whose one entry changes
module _ {K V X : Type 0} (order : K → K → Ordering) (laws : IsTotalOrder order) (read : Option V → List X) (old new : BTreeMap K V) (key : K) (value : V)
    (updates : Updates order old new key (Some value)) where
  here : (k : K) → is_eq (order key k) ≡ true → read (get order new k) ≡ read (Some value)
  here k tied = ap read (updates.0 k ∙ cond-true (is_eq (order key k)) (Some value) (get order old k) tied)

  there : (k : K) → is_eq (order key k) ≡ false → read (get order new k) ≡ read (get order old k)
  there k apart = ap read (updates.0 k ∙ cond-false (is_eq (order key k)) (Some value) (get order old k) apart)

  alike : (k : K) → is_eq (order key k) ≡ true → read (get order old key) ≡ read (get order old k)
  alike k tied = ap read (lookup_congr (eq_by_cmp order) (eq_by_cmp_equiv laws).congr old.entries key k tied)

  pub Adds-updates : (item : X) → Grows (read (get order old key)) (read (Some value)) item → Adds order (λ k. read (get order old k)) (λ k. read (get order new k)) key item
  Adds-updates item grows = record {
    kept = λ k x among. ⊎_elim
        (λ tied. subst (λ l. Contains l x) (sym (here k tied)) (grows.kept x (subst (λ l. Contains l x) (sym (alike k tied)) among)))
        (λ apart. subst (λ l. Contains l x) (sym (there k apart)) among)
        (cases_Bool (is_eq (order key k)));
    added = subst (λ l. Contains l item) (sym (ap read updates.1)) grows.added;
    only = λ k x among. ⊎_elim
        (λ tied. ⊎_elim
        (λ before. inl (subst (λ l. Contains l x) (alike k tied) before))
        (λ is. inr (tied, is))
        (grows.only x (subst (λ l. Contains l x) (here k tied) among)))
        (λ apart. inl (subst (λ l. Contains l x) (there k apart) among))
        (cases_Bool (is_eq (order key k)));
  }

  pub same-updates : read (Some value) ≡ read (get order old key) → (k : K) → read (get order new k) ≡ read (get order old k)
  same-updates same k = ⊎_elim
      (λ tied. here k tied ∙ same ∙ alike k tied)
      (λ apart. there k apart)
      (cases_Bool (is_eq (order key k)))

pub AddsAt-updates : {K X : Type 0} (order : K → K → Ordering) (laws : IsTotalOrder order) (old new : BTreeMap K (List X)) (key : K) (items : List X) (item : X)
    → Updates order old new key (Some items) → Grows (items_at order old key) items item → AddsAt order old new key item
AddsAt-updates order laws old new key items item updates grows =
    let adds = Adds-updates order laws items_of old new key items updates item grows in
    record { kept = adds.kept; added = adds.added; only = adds.only }

-- keys are ordered, and equal keys are one
pub key_order_total : IsTotalOrder key_order
key_order_total = then_total (on_total (λ (k : ObjectKey). k.group) nat_list_cmp_total)
    (then_total (on_total (λ (k : ObjectKey). k.resource) nat_list_cmp_total)
    (then_total (on_total (λ (k : ObjectKey). k.namespace) nat_list_cmp_total) (on_total (λ (k : ObjectKey). k.name) nat_list_cmp_total)))

equal_is : (o : Ordering) → is_eq o ≡ true → o ≡ Equal
equal_is Less other = cc
equal_is Equal same = refl
equal_is Greater other = cc

then_parts : (a b : Ordering) → ordering_then a b ≡ Equal → (a ≡ Equal) × (b ≡ Equal)
then_parts Less b other = cc
then_parts Equal b is = (refl, is)
then_parts Greater b other = cc

pub same_key_from : (a b : ObjectKey) → is_eq (key_order a b) ≡ true → a ≡ b
same_key_from a b tied =
    let groups = then_parts (text_order a.group b.group) _ (equal_is (key_order a b) tied) in
    let resources = then_parts (text_order a.resource b.resource) _ groups.1 in
    let rest = then_parts (text_order a.namespace b.namespace) (text_order a.name b.name) resources.1 in
    key_from_parts a b (exact_bytes a.group b.group groups.0) (exact_bytes a.resource b.resource resources.0) (exact_bytes a.namespace b.namespace rest.0) (exact_bytes a.name b.name rest.1)
