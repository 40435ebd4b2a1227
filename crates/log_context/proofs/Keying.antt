-- Keys that are gathered in a set.
use Rattle.std.proofs.Common.{◌≡◌, ℕ, ◌+◌, ◌<◌, ◌⊎◌, inl, inr, Bool, true, false, List, [], ◌∷◌, ◌++◌, length, get_or, take, Contains, refl, sym, ap, subst, ◌∙◌, true≢false}
use Rattle.std.specs.BTreeSet.{BTreeSet, contains, Updates, IsOrdered}
use Rattle.std.specs.List.{list_any}
use Rattle.std.specs.Ordering.{is_eq}
use Rattle.std.specs.Prelude.{◌↔◌, IsTrue, Any}
use Rattle.std.proofs.lemmas.Bool.{cond-true, cond-false}
use Rattle.std.proofs.lemmas.Cmp.{tied_itself}
use Rattle.std.proofs.lemmas.List.{take_more}
use Rattle.std.proofs.lemmas.List.Elements.{Contains-append_left, Contains-push, Contains-push_cases}
use Rattle.std.proofs.lemmas.Map.Keys.{Less-from_sorted}
use Rattle.std.proofs.lemmas.Map.Views.{btree_set_contains_iff}
use Rattle.std.proofs.lemmas.Option.{same_Some}
use Rattle.base_types.proofs.Quantifiers.{Any-contains}
use Rattle.base_types.specs.declared.kubernetes.key.Cover.{Cover}
use Rattle.base_types.specs.declared.kubernetes.key.CoverName.TheVariants.{Exact}
use Rattle.base_types.specs.declared.kubernetes.key.ObjectKey.{ObjectKey}
use Rattle.clouds.proofs.Adding.{key_order_total, same_key_from}
use Rattle.clouds.specs.Kept.{key_order}
use Rattle.object_past.specs.Indexed.{HasVersion}
use Rattle.object_past.specs.Scopes.{AreInOrder}
use Rattle.object_past.specs.declared.version.Version.{Version}
use Rattle.past_building.proofs.Mapped.{any_in}
use Rattle.write_groups.specs.declared.event.LogEvent.{LogEvent}
use Rattle.log_context.specs.Keyed.{AreKeys, IsNamedBy, IsToldOfKey}

abbrev Holds : BTreeSet ObjectKey → ObjectKey → Type 0
Holds keys key = IsTrue (contains key_order keys key)

-- one key more
inserted : (old new : BTreeSet ObjectKey) (k key : ObjectKey) → Updates key_order old new k true → Holds new key ↔ (Holds old key ⊎ (k ≡ key))
inserted old new k key updates = (
  (λ holds. go holds (is_eq (key_order k key)) refl),
  back,
)
  where
    go : Holds new key → (b : Bool) → is_eq (key_order k key) ≡ b → Holds old key ⊎ (k ≡ key)
    go holds true e = inr (same_key_from k key e)
    go holds false e = inl (subst IsTrue (updates.0 key ∙ cond-false (is_eq (key_order k key)) true (contains key_order old key) e) holds)

    tie : k ≡ key → is_eq (key_order k key) ≡ true
    tie same = subst (λ z. is_eq (key_order k z) ≡ true) same (ap is_eq (tied_itself key_order_total k))

    back : Holds old key ⊎ (k ≡ key) → Holds new key
    back (inr same) = subst IsTrue (sym (updates.0 key ∙ cond-true (is_eq (key_order k key)) true (contains key_order old key) (tie same))) refl
    back (inl holds) = by (is_eq (key_order k key)) refl
      where
        by : (b : Bool) → is_eq (key_order k key) ≡ b → Holds new key
        by true e = subst IsTrue (sym (updates.0 key ∙ cond-true (is_eq (key_order k key)) true (contains key_order old key) e)) refl
        by false e = subst IsTrue (sym (updates.0 key ∙ cond-false (is_eq (key_order k key)) true (contains key_order old key) e)) holds

-- a key of a list
pub key_next : (first old new : BTreeSet ObjectKey) (more : List ObjectKey) (i : ℕ) (k key : ObjectKey) → i < length more → k ≡ get_or more i k → Updates key_order old new k true
    → Holds old key ↔ (Holds first key ⊎ Contains (take i more) key) → Holds new key ↔ (Holds first key ⊎ Contains (take (i + 1) more) key)
key_next first old new more i k key within at updates has = ((λ holds. forth (ins.0 holds)), back)
  where
    ins : Holds new key ↔ (Holds old key ⊎ (k ≡ key))
    ins = inserted old new k key updates

    longer : take (i + 1) more ≡ take i more ++ k ∷ []
    longer = take_more more i k within ∙ ap (λ x. take i more ++ x ∷ []) (sym at)

    forth : Holds old key ⊎ (k ≡ key) → Holds first key ⊎ Contains (take (i + 1) more) key
    forth (inl holds) = by (has.0 holds)
      where
        by : Holds first key ⊎ Contains (take i more) key → Holds first key ⊎ Contains (take (i + 1) more) key
        by (inl h) = inl h
        by (inr c) = inr (subst (λ l. Contains l key) (sym longer) (Contains-append_left (take i more) (k ∷ []) key c))
    forth (inr same) = inr (subst (λ l. Contains l key) (sym longer) (subst (λ z. Contains (take i more ++ k ∷ []) z) same (Contains-push (take i more) k)))

    back : Holds first key ⊎ Contains (take (i + 1) more) key → Holds new key
    back (inl h) = ins.1 (inl (has.1 (inl h)))
    back (inr c) = by (Contains-push_cases (take i more) k key (subst (λ l. Contains l key) longer c))
      where
        by : Contains (take i more) key ⊎ (k ≡ key) → Holds new key
        by (inl d) = ins.1 (inl (has.1 (inr d)))
        by (inr same) = ins.1 (inr same)

-- an event names one key
named_once : (event : LogEvent) (a b : ObjectKey) → IsNamedBy a event → IsNamedBy b event → a ≡ b
named_once event a b (c, p, n) (d, q, m) = λ i. record { group = group i; resource = resource i; namespace = namespace i; name = name i }
  where
    same : c ≡ d
    same = cc (p, q)

    group : a.group ≡ b.group
    group = n.group ∙ ap (λ (x : Cover). x.group) same ∙ sym m.group

    resource : a.resource ≡ b.resource
    resource = n.resource ∙ ap (λ (x : Cover). x.resource) same ∙ sym m.resource

    namespace : a.namespace ≡ b.namespace
    namespace = same_Some a.namespace b.namespace (sym n.namespace ∙ ap (λ (x : Cover). x.namespace) same ∙ m.namespace)

    name : a.name ≡ b.name
    name = let e : Exact a.name ≡ Exact b.name = sym n.name ∙ ap (λ (x : Cover). x.name) same ∙ m.name in cc e

module _ (first old new : BTreeSet ObjectKey) (log : List LogEvent) (i : ℕ) (event : LogEvent) (key : ObjectKey) (within : i < length log) (at : event ≡ get_or log i event)
    (has : Holds old key ↔ (Holds first key ⊎ Any (IsNamedBy key) (take i log))) where
  longer : take (i + 1) log ≡ take i log ++ event ∷ []
  longer = take_more log i event within ∙ ap (λ x. take i log ++ x ∷ []) (sym at)

  earlier : Any (IsNamedBy key) (take i log) → Any (IsNamedBy key) (take (i + 1) log)
  earlier any = let f = any_in (IsNamedBy key) (take i log) any in
      subst (λ l. Any (IsNamedBy key) l) (sym longer) (Any-contains (IsNamedBy key) (take i log ++ event ∷ []) f.0 (Contains-append_left (take i log) (event ∷ []) f.0 f.1) f.2)

  last : IsNamedBy key event → Any (IsNamedBy key) (take (i + 1) log)
  last named = subst (λ l. Any (IsNamedBy key) l) (sym longer) (Any-contains (IsNamedBy key) (take i log ++ event ∷ []) event (Contains-push (take i log) event) named)

  split : Any (IsNamedBy key) (take (i + 1) log) → Any (IsNamedBy key) (take i log) ⊎ IsNamedBy key event
  split any = go (any_in (IsNamedBy key) (take i log ++ event ∷ []) (subst (λ l. Any (IsNamedBy key) l) longer any))
    where
      go : (x : LogEvent) × Contains (take i log ++ event ∷ []) x × IsNamedBy key x → Any (IsNamedBy key) (take i log) ⊎ IsNamedBy key event
      go (x, c, named) = by (Contains-push_cases (take i log) event x c)
        where
          by : Contains (take i log) x ⊎ (event ≡ x) → Any (IsNamedBy key) (take i log) ⊎ IsNamedBy key event
          by (inl d) = inl (Any-contains (IsNamedBy key) (take i log) x d named)
          by (inr same) = inr (subst (IsNamedBy key) (sym same) named)

  carry : Holds first key ⊎ Any (IsNamedBy key) (take i log) → Holds first key ⊎ Any (IsNamedBy key) (take (i + 1) log)
  carry (inl h) = inl h
  carry (inr any) = inr (earlier any)

  pub unnamed_next : (IsNamedBy key event → ⊥) → Holds old key ↔ (Holds first key ⊎ Any (IsNamedBy key) (take (i + 1) log))
  unnamed_next none = ((λ holds. carry (has.0 holds)), back)
    where
      back : Holds first key ⊎ Any (IsNamedBy key) (take (i + 1) log) → Holds old key
      back (inl h) = has.1 (inl h)
      back (inr any) = by (split any)
        where
          by : Any (IsNamedBy key) (take i log) ⊎ IsNamedBy key event → Holds old key
          by (inl before) = has.1 (inr before)
          by (inr named) = absurd (none named)

  pub named_next : (k : ObjectKey) → IsNamedBy k event → Updates key_order old new k true → Holds new key ↔ (Holds first key ⊎ Any (IsNamedBy key) (take (i + 1) log))
  named_next k names updates = ((λ holds. forth (ins.0 holds)), back)
    where
      ins : Holds new key ↔ (Holds old key ⊎ (k ≡ key))
      ins = inserted old new k key updates

      forth : Holds old key ⊎ (k ≡ key) → Holds first key ⊎ Any (IsNamedBy key) (take (i + 1) log)
      forth (inl holds) = carry (has.0 holds)
      forth (inr same) = inr (last (subst (λ z. IsNamedBy z event) same names))

      back : Holds first key ⊎ Any (IsNamedBy key) (take (i + 1) log) → Holds new key
      back (inl h) = ins.1 (inl (has.1 (inl h)))
      back (inr any) = by (split any)
        where
          by : Any (IsNamedBy key) (take i log) ⊎ IsNamedBy key event → Holds new key
          by (inl before) = ins.1 (inl (has.1 (inr before)))
          by (inr named) = ins.1 (inr (named_once event k key names named))

pub listed_order : (keys : BTreeSet ObjectKey) (list : List ObjectKey) → list ≡ keys.keys → IsOrdered key_order keys → AreInOrder list
listed_order keys list is ordered = subst AreInOrder (sym is) (λ i j d less within. Less-from_sorted key_order keys.keys i j d ordered less within)

pub listed_exact : (keys : BTreeSet ObjectKey) (list : List ObjectKey) → list ≡ keys.keys → (key : ObjectKey) → Contains list key ↔ IsTrue (contains key_order keys key)
listed_exact keys list is key =
    let iff = btree_set_contains_iff key_order_total (λ a b tied. same_key_from a b (ap is_eq tied)) keys key in
    ((λ among. iff.1 (subst (λ l. Contains l key) is among)), (λ held. subst (λ l. Contains l key) (sym is) (iff.0 held)))

-- the keys of versions, and those that are named, in one list
pub keys_are : (versions : List Version) (log : List LogEvent) (mine : List ObjectKey) (none some all : BTreeSet ObjectKey) (list : List ObjectKey) → AreInOrder list
    → ((key : ObjectKey) → Contains list key ↔ Holds all key) → ((key : ObjectKey) → Holds all key ↔ (Holds some key ⊎ Any (IsNamedBy key) log))
    → ((key : ObjectKey) → Holds some key ↔ (Holds none key ⊎ Contains mine key)) → ((key : ObjectKey) → Contains mine key ↔ HasVersion versions key) → none.keys ≡ [] → AreKeys versions log list
keys_are versions log mine none some all list order exact named kept own empty = record {
  order = order;
  exact = λ key. ((λ c. forth key ((named key).0 ((exact key).0 c))), (λ told. (exact key).1 ((named key).1 (back key told))));
}
  where
    nothing : (key : ObjectKey) → Holds none key → ⊥
    nothing key holds = let f : IsTrue false = subst (λ l. IsTrue (list_any (λ k. is_eq (key_order key k)) l)) empty holds in true≢false (sym f)

    forth : (key : ObjectKey) → Holds some key ⊎ Any (IsNamedBy key) log → IsToldOfKey versions log key
    forth key (inr any) = inr any
    forth key (inl holds) = by ((kept key).0 holds)
      where
        by : Holds none key ⊎ Contains mine key → IsToldOfKey versions log key
        by (inl h) = absurd (nothing key h)
        by (inr c) = inl ((own key).0 c)

    back : (key : ObjectKey) → IsToldOfKey versions log key → Holds some key ⊎ Any (IsNamedBy key) log
    back key (inl has) = inl ((kept key).1 (inr ((own key).1 has)))
    back key (inr any) = inr any
