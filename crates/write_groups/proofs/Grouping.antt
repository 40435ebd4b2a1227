-- The writes of one revision, and the group that is made of them.
use Rattle.std.proofs.Common.{◌≡◌, ℕ, ◌<◌, ◌≤◌, ◌⊎◌, inl, inr, true, false, nat_lt, List, [], ◌∷◌, length, get_or, Option, Some, None, Any, AllPairs, Contains, refl, sym, ap, ◌∙◌, subst, arith}
use Rattle.std.specs.BTreeMap.{BTreeMap, IsOrdered, get, keys, values}
use Rattle.std.specs.Cmp.{nat_cmp_total}
use Rattle.std.specs.List.{filter_map}
use Rattle.std.specs.Option.{option_and_then}
use Rattle.std.specs.Ordering.{nat_cmp}
use Rattle.std.proofs.lemmas.Bool.Decides.{nat_tests}
use Rattle.std.proofs.lemmas.List.{get_or-map, length-map}
use Rattle.std.proofs.lemmas.Map.Keys.{below_from_sorted}
use Rattle.std.proofs.lemmas.Map.Lookups.{exact_unsigned}
use Rattle.std.proofs.lemmas.Map.Views.{btree_map_get_iff}
use Rattle.std.proofs.lemmas.Option.{same_Some}
use Rattle.base_types.proofs.Quantifiers.{Any-contains}
use Rattle.history_model.proofs.Members.{here, all_from}
use Rattle.write_groups.proofs.Comparing.{nat_tells}
use Rattle.write_groups.proofs.Lists.{filter_from, filter_has, made_from, made_has, made_pairs, made_map, first_of}
use Rattle.write_groups.specs.declared.event.Item.{Item}
use Rattle.write_groups.specs.declared.event.LogEvent.{LogEvent}
use Rattle.write_groups.specs.declared.groups.Group.{Group}
use Rattle.write_groups.specs.Grouped.{item_at, if_above, revision_above, is_this, answered_with, numbers_at, or_none, members_of, group_by, group_in, AreGathered, AreGroups}

this_is : (revision : ℕ) (o : Option ℕ) → is_this revision o ≡ true → o ≡ Some revision
this_is revision None e = absurd (cc e)
this_is revision (Some found) e = ap Some (grind (arith, nat_tests))

is_itself : (revision : ℕ) → is_this revision (Some revision) ≡ true
is_itself revision = grind (arith, nat_tests)

-- what a write above the start was answered with
pub record IsAnswer (start : ℕ) (events : List LogEvent) (number revision : ℕ) : Type 0 where
  pub item : Item
  pub found : item_at events number ≡ Some item
  pub of_revision : item.revision ≡ revision
  pub above : start < revision

answer_from : (start : ℕ) (events : List LogEvent) (number revision : ℕ) → revision_above start events number ≡ Some revision → IsAnswer start events number revision
answer_from start events number revision e = go (item_at events number) refl
  where
    go : (o : Option Item) → item_at events number ≡ o → IsAnswer start events number revision
    go None p = absurd (let none : option_and_then (λ (item : Item). if_above start item.revision) None ≡ Some revision = subst (λ o. option_and_then (λ (item : Item). if_above start item.revision) o ≡ Some revision) p e in cc none)
    go (Some item) p = by (nat_tells start item.revision)
      where
        some : if_above start item.revision ≡ Some revision
        some = subst (λ o. option_and_then (λ (item : Item). if_above start item.revision) o ≡ Some revision) p e

        by : ((nat_lt start item.revision ≡ true) × (start < item.revision)) ⊎ ((nat_lt start item.revision ≡ false) × (item.revision ≤ start)) → IsAnswer start events number revision
        by (inl t) = let same : item.revision ≡ revision = same_Some item.revision revision (rw t.0 at some) in record { item = item; found = p; of_revision = same; above = subst (λ n. start < n) same t.1 }
        by (inr t) = absurd (let none : None ≡ Some revision = rw t.0 at some in cc none)

pub above_is : (start : ℕ) (events : List LogEvent) (number : ℕ) (item : Item) → item_at events number ≡ Some item → start < item.revision → revision_above start events number ≡ Some item.revision
above_is start events number item e l = subst (λ o. option_and_then (λ (i : Item). if_above start i.revision) o ≡ Some item.revision) (sym e) (go (nat_tells start item.revision))
  where
    go : ((nat_lt start item.revision ≡ true) × (start < item.revision)) ⊎ ((nat_lt start item.revision ≡ false) × (item.revision ≤ start)) → if_above start item.revision ≡ Some item.revision
    go (inl t) = rw t.0 refl
    go (inr t) = absurd (omega arith)

pub record IsAnswered (start : ℕ) (events : List LogEvent) (order : List ℕ) (number revision : ℕ) : Type 0 where
  pub ordered : Contains order number
  pub answer : IsAnswer start events number revision

pub answered_from : (start : ℕ) (events : List LogEvent) (order : List ℕ) (number revision : ℕ) → Contains (answered_with start events order revision) number → IsAnswered start events order number revision
answered_from start events order number revision c =
    let kept = filter_from (λ n. is_this revision (revision_above start events n)) order number c in
    record { ordered = kept.0; answer = answer_from start events number revision (this_is revision (revision_above start events number) kept.1) }

answered_at : (start : ℕ) (events : List LogEvent) (order : List ℕ) (number revision : ℕ) → Contains order number → revision_above start events number ≡ Some revision → Contains (answered_with start events order revision) number
answered_at start events order number revision c e =
    filter_has (λ n. is_this revision (revision_above start events n)) order number c (ap (is_this revision) e ∙ is_itself revision)

pub answered_has : (start : ℕ) (events : List LogEvent) (order : List ℕ) (number : ℕ) (item : Item) → Contains order number → item_at events number ≡ Some item → start < item.revision
    → Contains (answered_with start events order item.revision) number
answered_has start events order number item c e l = answered_at start events order number item.revision c (above_is start events number item e l)

-- the group that is made of some writes
pub record IsMade (events : List LogEvent) (numbers : List ℕ) (group : Group) : Type 0 where
  pub first : ℕ
  pub rest : List ℕ
  pub are : numbers ≡ first ∷ rest
  pub item : Item
  pub found : item_at events first ≡ Some item
  pub group_is : group ≡ record { revision = item.revision; key = item.key; members = members_of events item.key numbers }

pub made_is : (events : List LogEvent) (numbers : List ℕ) (group : Group) → group_in events numbers ≡ Some group → IsMade events numbers group
made_is events [] group e = absurd (cc e)
made_is events (first ∷ rest) group e = go (item_at events first) refl
  where
    go : (o : Option Item) → item_at events first ≡ o → IsMade events (first ∷ rest) group
    go None p = absurd (let none : None ≡ Some group = subst (λ o. group_by events (first ∷ rest) o ≡ Some group) p e in cc none)
    go (Some item) p = record {
      first = first;
      rest = rest;
      are = refl;
      item = item;
      found = p;
      group_is = sym (same_Some (record { revision = item.revision; key = item.key; members = members_of events item.key (first ∷ rest) }) group (subst (λ o. group_by events (first ∷ rest) o ≡ Some group) p e));
    }

-- the group of the writes that were answered with a revision
pub made_of : (start : ℕ) (events : List LogEvent) (order : List ℕ) (revision : ℕ) (group : Group) → group_in events (answered_with start events order revision) ≡ Some group
    → (group.revision ≡ revision) × (start < revision)
made_of start events order revision group e = go (made_is events (answered_with start events order revision) group e)
  where
    go : IsMade events (answered_with start events order revision) group → (group.revision ≡ revision) × (start < revision)
    go m = (ap (λ (g : Group). g.revision) m.group_is ∙ ap (λ (i : Item). i.revision) (same_Some m.item a.item (sym m.found ∙ a.found)) ∙ a.of_revision, a.above)
      where
        a : IsAnswer start events m.first revision
        a = (answered_from start events order m.first revision (subst (λ l. Contains l m.first) (sym m.are) (here m.first m.rest))).answer

-- where there are such writes, there is a group
group_of : (start : ℕ) (events : List LogEvent) (order : List ℕ) (revision number : ℕ) → Contains (answered_with start events order revision) number
    → (group : Group) × (group_in events (answered_with start events order revision) ≡ Some group)
group_of start events order revision number c = go (first_of (answered_with start events order revision) number c)
  where
    go : (first : ℕ) × (rest : List ℕ) × (answered_with start events order revision ≡ first ∷ rest) → (group : Group) × (group_in events (answered_with start events order revision) ≡ Some group)
    go (first, rest, e) = (
      record { revision = a.item.revision; key = a.item.key; members = members_of events a.item.key (first ∷ rest) },
      ap (group_in events) e ∙ ap (group_by events (first ∷ rest)) a.found,
    )
      where
        a : IsAnswer start events first revision
        a = (answered_from start events order first revision (subst (λ l. Contains l first) (sym e) (here first rest))).answer

numbers_found : (made : BTreeMap ℕ (List ℕ)) (revision : ℕ) (numbers : List ℕ) (number : ℕ) → numbers_at made revision ≡ numbers → Contains numbers number → get nat_cmp made revision ≡ Some numbers
numbers_found made revision numbers number e c = go (get nat_cmp made revision) refl
  where
    go : (o : Option (List ℕ)) → get nat_cmp made revision ≡ o → get nat_cmp made revision ≡ Some numbers
    go None p = absurd (let none : [] ≡ numbers = subst (λ o. or_none o ≡ numbers) p e in empty (subst (λ l. Contains l number) (sym none) c))
      where
        empty : Contains [] number → ⊥
        empty (k, l, q) = omega arith
    go (Some found) p = p ∙ ap Some (subst (λ o. or_none o ≡ numbers) p e)

-- the groups that are made of what was gathered
module _ (start : ℕ) (events : List LogEvent) (order : List ℕ) (made : BTreeMap ℕ (List ℕ)) (sorted : IsOrdered nat_cmp made) (gathered : AreGathered start events order made) where
  abbrev groups_made : List Group
  groups_made = filter_map (λ (e : ℕ × List ℕ). group_in events e.1) made.entries

  entry_is : (e : ℕ × List ℕ) → Contains made.entries e → e.1 ≡ answered_with start events order e.0
  entry_is (revision, numbers) c = sym (ap or_none ((btree_map_get_iff nat_cmp_total exact_unsigned made sorted revision numbers).1 c)) ∙ gathered revision

  entry_makes : (e : ℕ × List ℕ) (group : Group) → Contains made.entries e → group_in events e.1 ≡ Some group → group_in events (answered_with start events order e.0) ≡ Some group
  entry_makes e group c m = subst (λ l. group_in events l ≡ Some group) (entry_is e c) m

  entry_of : (e : ℕ × List ℕ) (group : Group) → Contains made.entries e → group_in events e.1 ≡ Some group → (group.revision ≡ e.0) × (start < e.0)
  entry_of e group c m = made_of start events order e.0 group (entry_makes e group c m)

  entries_rise : AllPairs (λ (a b : ℕ × List ℕ). a.0 < b.0) made.entries
  entries_rise i j d l m =
      let first : i < length made.entries = omega arith in
      subst (λ n. n < (get_or made.entries j d).0) (get_or-map (λ (e : ℕ × List ℕ). e.0) made.entries i d d.0 first)
      (subst (λ n. get_or (keys made) i d.0 < n) (get_or-map (λ (e : ℕ × List ℕ). e.0) made.entries j d d.0 m)
      (below_from_sorted (keys made) i j d.0 sorted l (omega (arith, length-map made.entries (λ (e : ℕ × List ℕ). e.0)))))

  made_above : (group : Group) → Contains groups_made group → start < group.revision
  made_above group c = go (made_from (λ (e : ℕ × List ℕ). group_in events e.1) made.entries group c)
    where
      go : (e : ℕ × List ℕ) × Contains made.entries e × (group_in events e.1 ≡ Some group) → start < group.revision
      go (e, k, m) = subst (λ n. start < n) (sym (entry_of e group k m).0) (entry_of e group k m).1

  made_sound : (group : Group) → Contains groups_made group → group_in events (answered_with start events order group.revision) ≡ Some group
  made_sound group c = go (made_from (λ (e : ℕ × List ℕ). group_in events e.1) made.entries group c)
    where
      go : (e : ℕ × List ℕ) × Contains made.entries e × (group_in events e.1 ≡ Some group) → group_in events (answered_with start events order group.revision) ≡ Some group
      go (e, k, m) = subst (λ n. group_in events (answered_with start events order n) ≡ Some group) (sym (entry_of e group k m).0) (entry_makes e group k m)

  made_full : (number revision : ℕ) → Contains order number → revision_above start events number ≡ Some revision → Any (λ (group : Group). group.revision ≡ revision) groups_made
  made_full number revision c e = go (group_of start events order revision number at)
    where
      at : Contains (answered_with start events order revision) number
      at = answered_at start events order number revision c e

      entry : Contains made.entries (revision, answered_with start events order revision)
      entry = (btree_map_get_iff nat_cmp_total exact_unsigned made sorted revision (answered_with start events order revision)).0
          (numbers_found made revision (answered_with start events order revision) number (gathered revision) at)

      go : (group : Group) × (group_in events (answered_with start events order revision) ≡ Some group) → Any (λ (group : Group). group.revision ≡ revision) groups_made
      go (group, m) = Any-contains (λ (g : Group). g.revision ≡ revision) groups_made group
          (made_has (λ (e : ℕ × List ℕ). group_in events e.1) made.entries (revision, answered_with start events order revision) group entry m)
          (made_of start events order revision group m).0

  all_made : AreGroups start events order groups_made
  all_made = record {
    rising = made_pairs (λ (e : ℕ × List ℕ). group_in events e.1) (λ (a b : ℕ × List ℕ). a.0 < b.0) (λ (a b : Group). a.revision < b.revision) made.entries entries_rise
        (λ a b x y c d l p q. let u = (entry_of a x c p).0 in let v = (entry_of b y d q).0 in omega (arith, u, v, l));
    above = all_from (λ (group : Group). start < group.revision) groups_made made_above;
    sound = all_from (λ (group : Group). group_in events (answered_with start events order group.revision) ≡ Some group) groups_made made_sound;
    full = made_full;
  }

  pub groups_are : (groups : List Group) → groups ≡ filter_map (group_in events) (values made) → AreGroups start events order groups
  groups_are groups e = subst (λ l. AreGroups start events order l) (sym (e ∙ made_map (group_in events) (λ (e : ℕ × List ℕ). e.1) made.entries)) all_made
