-- The keys of a scope stand together among the keys in order.
use Rattle.std.proofs.Common.{◌≡◌, ℕ, ◌+◌, ◌-◌, ◌<◌, ◌≤◌, ⊎_elim, Bool, true, false, List, [], ◌∷◌, length, get_or, take, drop, refl, sym, ◌∙◌, subst, ap, arith}
use Rattle.std.specs.Cmp.{IsTotalOrder}
use Rattle.std.specs.List.{Contains}
use Rattle.std.specs.List.Sorted.{IsPartitionPoint, IsPartitionedBy}
use Rattle.std.specs.Ordering.{is_gt, is_le, is_lt, ordering_reverse, ordering_then}
use Rattle.std.specs.Prelude.{◌↔◌}
use Rattle.std.specs.declared.cmp.Ordering.{Ordering}
use Rattle.std.specs.declared.cmp.Ordering.TheVariants.{Equal, Greater, Less}
use Rattle.std.proofs.lemmas.Bool.{cases_lt, false≢true}
use Rattle.std.proofs.lemmas.Cmp.{nat_list_cmp_total, on_total, then_total, tied_itself, upto}
use Rattle.std.proofs.lemmas.List.{get_or-drop, get_or-take, length-drop, length-take}
use Rattle.std.proofs.lemmas.Map.Lookups.{exact_bytes}
use Rattle.base_types.specs.declared.kubernetes.key.ObjectKey.{ObjectKey}
use Rattle.clouds.specs.Kept.{key_order, text_order}
use Rattle.history_model.specs.Right.{InNamespace}
use Rattle.object_past.specs.Scopes.{AreInOrder, IsInScope, namespace_order, scope_order}

-- namespaces are told apart where the scope has one
abbrev within_order : List ℕ → List ℕ → List ℕ → Ordering
within_order [] a b = Equal
within_order (byte ∷ bytes) a b = text_order a b

within_total : (namespace : List ℕ) → IsTotalOrder (within_order namespace)
within_total [] = record { antisymm = λ x y. refl; trans = λ x y z p q. p; congr = λ x y z p. refl }
within_total (byte ∷ bytes) = record { antisymm = nat_list_cmp_total.antisymm; trans = nat_list_cmp_total.trans; congr = nat_list_cmp_total.congr }

same_order : (namespace other : List ℕ) → namespace_order namespace other ≡ within_order namespace other namespace
same_order [] other = refl
same_order (byte ∷ bytes) other = refl

-- keys by the parts that the scope looks at
abbrev front_order : List ℕ → ObjectKey → ObjectKey → Ordering
front_order namespace a b = ordering_then (text_order a.group b.group) (ordering_then (text_order a.resource b.resource) (within_order namespace a.namespace b.namespace))

front_total : (namespace : List ℕ) → IsTotalOrder (front_order namespace)
front_total namespace = then_total (on_total (λ (k : ObjectKey). k.group) nat_list_cmp_total)
    (then_total (on_total (λ (k : ObjectKey). k.resource) nat_list_cmp_total) (on_total (λ (k : ObjectKey). k.namespace) (within_total namespace)))

abbrev scope_key : (group resource namespace : List ℕ) → ObjectKey
scope_key group resource namespace = record { group = group; resource = resource; namespace = namespace; name = [] }

scope_is : (group resource namespace : List ℕ) (key : ObjectKey) → scope_order group resource namespace key ≡ front_order namespace key (scope_key group resource namespace)
scope_is group resource namespace key = ap (λ o. ordering_then (text_order key.group group) (ordering_then (text_order key.resource resource) o)) (same_order namespace key.namespace)

then_not_greater : (o p q : Ordering) → ordering_then o p ≡ Less → (p ≡ Less → is_gt q ≡ false) → is_gt (ordering_then o q) ≡ false
then_not_greater Less p q is rest = refl
then_not_greater Equal p q is rest = rest is
then_not_greater Greater p q is rest = absurd (cc is)

coarser : (namespace a b name_a name_b : List ℕ) → ordering_then (text_order a b) (text_order name_a name_b) ≡ Less → is_gt (within_order namespace a b) ≡ false
coarser [] a b name_a name_b is = refl
coarser (byte ∷ bytes) a b name_a name_b is = go (text_order a b) is
  where
    go : (o : Ordering) → ordering_then o (text_order name_a name_b) ≡ Less → is_gt o ≡ false
    go Less is = refl
    go Equal is = refl
    go Greater is = absurd (cc is)

-- a key in front of another isn't behind it in the scope's order
not_behind : (namespace : List ℕ) (a b : ObjectKey) → key_order a b ≡ Less → is_gt (front_order namespace a b) ≡ false
not_behind namespace a b less =
    then_not_greater (text_order a.group b.group) _ (ordering_then (text_order a.resource b.resource) (within_order namespace a.namespace b.namespace)) less
    (λ by_resource. then_not_greater (text_order a.resource b.resource) _ (within_order namespace a.namespace b.namespace) by_resource
    (λ by_namespace. coarser namespace a.namespace b.namespace a.name b.name by_namespace))

turned : (namespace : List ℕ) (a b : ObjectKey) (o p : Ordering) → front_order namespace a b ≡ o → ordering_reverse o ≡ p → front_order namespace b a ≡ p
turned namespace a b o p is back = (front_total namespace).antisymm b a ∙ ap ordering_reverse is ∙ back

is_lt_Less : (o : Ordering) → is_lt o ≡ true → o ≡ Less
is_lt_Less Less is = refl
is_lt_Less Equal is = cc
is_lt_Less Greater is = cc

is_le_gt : (o : Ordering) → is_le o ≡ true → is_gt o ≡ false
is_le_gt Less is = refl
is_le_gt Equal is = refl
is_le_gt Greater is = cc

is_gt_le : (o : Ordering) → is_gt o ≡ false → is_le o ≡ true
is_gt_le Less is = refl
is_gt_le Equal is = refl
is_gt_le Greater is = cc

between : (o : Ordering) → is_lt o ≡ false → is_le o ≡ true → o ≡ Equal
between Less a b = cc
between Equal a b = refl
between Greater a b = cc

still_before : (group resource namespace : List ℕ) (a b : ObjectKey) → key_order a b ≡ Less → is_lt (scope_order group resource namespace b) ≡ true → is_lt (scope_order group resource namespace a) ≡ true
still_before group resource namespace a b less before = go (front_order namespace a scope) refl
  where
    scope : ObjectKey
    scope = scope_key group resource namespace

    b_before : front_order namespace scope b ≡ Greater
    b_before = turned namespace b scope Less Greater (sym (scope_is group resource namespace b) ∙ is_lt_Less (scope_order group resource namespace b) before) refl

    no : is_gt (front_order namespace scope a) ≡ false → ⊥
    no under = false≢true (sym (upto (front_total namespace) scope a b under (not_behind namespace a b less)) ∙ ap is_gt b_before)

    go : (o : Ordering) → front_order namespace a scope ≡ o → is_lt (scope_order group resource namespace a) ≡ true
    go Less is = ap is_lt (scope_is group resource namespace a ∙ is)
    go Equal is = absurd (no (ap is_gt (turned namespace a scope Equal Equal is refl)))
    go Greater is = absurd (no (ap is_gt (turned namespace a scope Greater Less is refl)))

still_upto : (group resource namespace : List ℕ) (a b : ObjectKey) → key_order a b ≡ Less → is_le (scope_order group resource namespace b) ≡ true → is_le (scope_order group resource namespace a) ≡ true
still_upto group resource namespace a b less within = is_gt_le (scope_order group resource namespace a)
    (ap is_gt (scope_is group resource namespace a)
    ∙ upto (front_total namespace) a b (scope_key group resource namespace) (not_behind namespace a b less)
    (ap is_gt (sym (scope_is group resource namespace b)) ∙ is_le_gt (scope_order group resource namespace b) within))

-- what a search among keys in order asks
parted : (keys : List ObjectKey) (test : ObjectKey → Bool) → AreInOrder keys → ((a b : ObjectKey) → key_order a b ≡ Less → test b ≡ true → test a ≡ true) → IsPartitionedBy test keys
parted keys test order still = λ i j d front within passes. ⊎_elim
    (λ (less : i < j). still (get_or keys i d) (get_or keys j d) (order i j d less within) passes)
    (λ (same : j ≤ i). let is : j ≡ i = omega arith in subst (λ n. test (get_or keys n d) ≡ true) is passes)
    (cases_lt i j)

pub parted_before : (group resource namespace : List ℕ) (keys : List ObjectKey) → AreInOrder keys → IsPartitionedBy (λ key. is_lt (scope_order group resource namespace key)) keys
parted_before group resource namespace keys order = parted keys (λ key. is_lt (scope_order group resource namespace key)) order (still_before group resource namespace)

pub parted_upto : (group resource namespace : List ℕ) (keys : List ObjectKey) → AreInOrder keys → IsPartitionedBy (λ key. is_le (scope_order group resource namespace key)) keys
parted_upto group resource namespace keys order = parted keys (λ key. is_le (scope_order group resource namespace key)) order (still_upto group resource namespace)

pub AreInOrder-drop : (n : ℕ) (keys : List ObjectKey) → AreInOrder keys → AreInOrder (drop n keys)
AreInOrder-drop n keys order = λ i j d less within.
    let long : j < length keys - n = omega (arith, length-drop n keys) in
    subst (λ a. key_order a (get_or (drop n keys) j d) ≡ Less) (sym (get_or-drop n keys i d))
    (subst (λ b. key_order (get_or keys (n + i) d) b ≡ Less) (sym (get_or-drop n keys j d)) (order (n + i) (n + j) d (omega arith) (omega arith)))

-- ---- what the scope's order says

then_parts : (a b : Ordering) → ordering_then a b ≡ Equal → (a ≡ Equal) × (b ≡ Equal)
then_parts Less b is = absurd (cc is)
then_parts Equal b is = (refl, is)
then_parts Greater b is = absurd (cc is)

in_namespace : (namespace other : List ℕ) → namespace_order namespace other ≡ Equal → InNamespace namespace other
in_namespace [] other is = tt
in_namespace (byte ∷ bytes) other is = exact_bytes other (byte ∷ bytes) is

namespace_tied : (namespace other : List ℕ) → InNamespace namespace other → namespace_order namespace other ≡ Equal
namespace_tied [] other is = refl
namespace_tied (byte ∷ bytes) other is = ap (λ n. text_order n (byte ∷ bytes)) is ∙ tied_itself nat_list_cmp_total (byte ∷ bytes)

in_scope : (group resource namespace : List ℕ) (key : ObjectKey) → scope_order group resource namespace key ≡ Equal → IsInScope group resource namespace key
in_scope group resource namespace key is =
    let groups = then_parts (text_order key.group group) _ is in
    let resources = then_parts (text_order key.resource resource) _ groups.1 in
    record {
      of_group = exact_bytes key.group group groups.0;
      of_resource = exact_bytes key.resource resource resources.0;
      of_namespace = in_namespace namespace key.namespace resources.1;
    }

scope_tied : (group resource namespace : List ℕ) (key : ObjectKey) → IsInScope group resource namespace key → scope_order group resource namespace key ≡ Equal
scope_tied group resource namespace key is =
    let groups : text_order key.group group ≡ Equal = ap (λ g. text_order g group) is.of_group ∙ tied_itself nat_list_cmp_total group in
    let resources : text_order key.resource resource ≡ Equal = ap (λ r. text_order r resource) is.of_resource ∙ tied_itself nat_list_cmp_total resource in
    rw (groups, resources) (namespace_tied namespace key.namespace is.of_namespace)

pub scope_exact : (group resource namespace : List ℕ) (keys scope : List ObjectKey) (before within : ℕ) → before ≤ length keys → within ≤ length (drop before keys) → scope ≡ take within (drop before keys)
    → IsPartitionPoint (λ key. is_lt (scope_order group resource namespace key) ≡ true) (λ key. is_lt (scope_order group resource namespace key) ≡ false) keys before
    → IsPartitionPoint (λ key. is_le (scope_order group resource namespace key) ≡ true) (λ key. is_le (scope_order group resource namespace key) ≡ false) (drop before keys) within
    → (key : ObjectKey) → Contains scope key ↔ (Contains keys key × IsInScope group resource namespace key)
scope_exact group resource namespace keys scope before within front rest is parts later key = (
  (λ among. forth (subst (λ l. Contains l key) is among)),
  (λ both. subst (λ l. Contains l key) (sym is) (back both.0 both.1)),
)
  where
    at : (k : ℕ) → get_or (drop before keys) k key ≡ get_or keys (before + k) key
    at k = get_or-drop before keys k key

    forth : Contains (take within (drop before keys)) key → Contains keys key × IsInScope group resource namespace key
    forth (k, low, here) =
        let under : k < within = omega (arith, length-take within (drop before keys)) in
        let long : before + k < length keys = omega (arith, length-drop before keys) in
        let is_key : get_or (drop before keys) k key ≡ key = sym (get_or-take within (drop before keys) k key under) ∙ here in
        let upto : is_le (scope_order group resource namespace key) ≡ true = subst (λ x. is_le (scope_order group resource namespace x) ≡ true) is_key (later.0 k key (omega arith) under) in
        let from : is_lt (scope_order group resource namespace key) ≡ false =
        subst (λ x. is_lt (scope_order group resource namespace x) ≡ false) (sym (at k) ∙ is_key) (parts.1 (before + k) key (omega arith) long) in
        ((before + k, long, sym (at k) ∙ is_key), in_scope group resource namespace key (between (scope_order group resource namespace key) from upto))

    back : Contains keys key → IsInScope group resource namespace key → Contains (take within (drop before keys)) key
    back (j, long, here) held =
        let tied = scope_tied group resource namespace key held in
        let from : before ≤ j = ⊎_elim
        (λ (less : j < before). absurd (false≢true (sym (ap is_lt tied) ∙ subst (λ x. is_lt (scope_order group resource namespace x) ≡ true) here (parts.0 j key (omega arith) less))))
        (λ (le : before ≤ j). le)
        (cases_lt j before) in
        let k : before + (j - before) ≡ j = omega arith in
        let is_key : get_or (drop before keys) (j - before) key ≡ key = at (j - before) ∙ ap (λ n. get_or keys n key) k ∙ here in
        let under : j - before < within = ⊎_elim
        (λ (less : j - before < within). less)
        (λ (le : within ≤ j - before).
        let inside : j - before < length (drop before keys) = omega (arith, length-drop before keys) in
        absurd (false≢true (sym (subst (λ x. is_le (scope_order group resource namespace x) ≡ false) is_key (later.1 (j - before) key le inside)) ∙ ap is_le tied)))
        (cases_lt (j - before) within) in
        (j - before, omega (arith, length-take within (drop before keys)), get_or-take within (drop before keys) (j - before) key under ∙ is_key)
