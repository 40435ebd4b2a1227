-- A machine begins with the snapshot.
use Rattle.std.proofs.Common.{◌≡◌, ℕ, ◌+◌, ◌<◌, ◌≤◌, ◌⊎◌, ◌↔◌, ◌==◌, Bool, true, false, List, [], ◌∷◌, ◌++◌, length, get_or, take, map, find, Option, Some, None, IsSome, Contains, inl, inr, refl, sym, ap, ◌∙◌, subst, arith, true≢false}
use Rattle.std.specs.Prelude.{option_and_then, option_map}
use Rattle.std.specs.BTreeMap.{BTreeMap, Updates, get}
use Rattle.std.specs.Ordering.{is_eq}
use Rattle.std.proofs.lemmas.List.{take_more, take_all}
use Rattle.std.proofs.lemmas.List.Elements.{Contains-push, Contains-push_cases, Contains-append_left}
use Rattle.base_types.specs.declared.kubernetes.key.ObjectKey.{ObjectKey}
use Rattle.base_types.specs.Keys.{same_key}
use Rattle.clouds.proofs.Adding.{same_key_from}
use Rattle.clouds.specs.Kept.{key_order}
use Rattle.history_model.proofs.KeyLemmas.{key_decides, key_is}
use Rattle.history_model.proofs.Latest.{latest_is}
use Rattle.history_model.proofs.WordLemmas.{found_in, not_found}
use Rattle.history_model.specs.Histories as histories
use Rattle.history_model.specs.Histories.{History}
use Rattle.history_model.specs.Readable.{IsReadable}
use Rattle.history_model.specs.States.{latest, IsLatest}
use Rattle.object_past.specs.Indexed.{HasVersion}
use Rattle.object_past.specs.Modelled.{version_of}
use Rattle.object_past.specs.declared.version.Version.{Version}
use Rattle.write_groups.proofs.Lists.{map_from, map_has}
use Rattle.serial_machine.proofs.Changing.{found_by}
use Rattle.serial_machine.specs.Held.{HasMade, held, objects_in}
use Rattle.serial_machine.specs.declared.machine.Machine.{Machine}
use Rattle.log_context.specs.Uses.{AreUsesOf}

abbrev pub first_revision : History → ObjectKey → Option ℕ
first_revision h key = option_map (λ (v : histories.Version). v.revision) (latest h.versions key h.start)

-- these keys hold the revisions of the snapshot, and no others are there
pub record IsBegun (h : History) (keys : List ObjectKey) (objects : BTreeMap ObjectKey (Option ℕ)) : Type 0 where
  pub there : (key : ObjectKey) → Contains keys key → get key_order objects key ≡ Some (first_revision h key)
  pub only : (key : ObjectKey) → IsSome (get key_order objects key) → Contains keys key

not_in : {X : Type 0} {x : X} → Contains [] x → ⊥
not_in (k, l, e) = omega arith

abbrev nothing_there : Option (Option ℕ)
nothing_there = None

pub begun_none : (h : History) (objects : BTreeMap ObjectKey (Option ℕ)) → objects.entries ≡ [] → IsBegun h [] objects
begun_none h objects e = record {
  there = λ key c. absurd (not_in c);
  only = λ key s. absurd (nowhere (subst (λ o. IsSome o) (unfound key) s));
}
  where
    unfound : (key : ObjectKey) → get key_order objects key ≡ None
    unfound key = rw e refl

    nowhere : IsSome (nothing_there) → ⊥
    nowhere s = true≢false (sym s)

begun_push : (h : History) (keys : List ObjectKey) (key : ObjectKey) (old new : BTreeMap ObjectKey (Option ℕ)) → Updates key_order old new key (Some (first_revision h key))
    → IsBegun h keys old → IsBegun h (keys ++ key ∷ []) new
begun_push h keys key old new updates begun = record {
  there = λ other c. there other (Contains-push_cases keys key other c) (is_eq (key_order key other)) refl;
  only = λ other s. only other s (is_eq (key_order key other)) refl;
}
  where
    there : (other : ObjectKey) → Contains keys other ⊎ (key ≡ other) → (t : Bool) → is_eq (key_order key other) ≡ t → get key_order new other ≡ Some (first_revision h other)
    there other c true e = let same : key ≡ other = same_key_from key other e in subst (λ k. get key_order new k ≡ Some (first_revision h k)) same updates.1
    there other (inl c) false e = updates.2 other e ∙ begun.there other c
    there other (inr same) false e = subst (λ k. get key_order new k ≡ Some (first_revision h k)) same updates.1

    only : (other : ObjectKey) → IsSome (get key_order new other) → (t : Bool) → is_eq (key_order key other) ≡ t → Contains (keys ++ key ∷ []) other
    only other s true e = subst (λ k. Contains (keys ++ key ∷ []) k) (same_key_from key other e) (Contains-push keys key)
    only other s false e = Contains-append_left keys (key ∷ []) other (begun.only other (subst (λ o. IsSome o) (updates.2 other e) s))

pub begun_more : (h : History) (keys : List ObjectKey) (i : ℕ) (key copy : ObjectKey) (revision : Option ℕ) (old new : BTreeMap ObjectKey (Option ℕ)) → i < length keys → key ≡ get_or keys i key
    → copy ≡ key → revision ≡ first_revision h key → Updates key_order old new copy (Some revision) → IsBegun h (take i keys) old → IsBegun h (take (i + 1) keys) new
begun_more h keys i key copy revision old new l is c r updates begun =
    subst (λ ks. IsBegun h ks new) (sym (take_more keys i key l ∙ ap (λ k. take i keys ++ k ∷ []) (sym is)))
    (begun_push h (take i keys) key old new
    (subst (λ o. Updates key_order old new key (Some o)) r (subst (λ k. Updates key_order old new k (Some revision)) c updates)) begun)

pub begun_all : (h : History) (keys : List ObjectKey) (i : ℕ) (machine : Machine) (versions : List Version) → IsReadable h → h.versions ≡ map version_of versions → length keys ≤ i
    → ((key : ObjectKey) → Contains keys key ↔ HasVersion versions key) → IsBegun h (take i keys) machine.objects → AreUsesOf h machine.uses → machine.place ≡ h.start → HasMade h machine []
begun_all h keys i machine versions r past over exact begun uses place = record { readable = r; objects = objects; rooms = λ key. (to key, from key); uses = uses; place = place }
  where
    all : IsBegun h keys machine.objects
    all = subst (λ ks. IsBegun h ks machine.objects) (take_all i keys over) begun

    to : (key : ObjectKey) → IsSome (get key_order machine.objects key) → (v : histories.Version) × Contains h.versions v × (v.key ≡ key)
    to key s = by ((exact key).0 (all.only key s))
      where
        by : HasVersion versions key → (v : histories.Version) × Contains h.versions v × (v.key ≡ key)
        by (k, w, l, at, e) = (version_of w, subst (λ vs. Contains vs (version_of w)) (sym past) (map_has version_of versions w (k, l, at)), e)

    has : (key : ObjectKey) → (v : histories.Version) × Contains h.versions v × (v.key ≡ key) → Contains keys key
    has key (v, c, e) = (exact key).1 (by (map_from version_of versions v (subst (λ vs. Contains vs v) past c)))
      where
        by : (w : Version) × Contains versions w × (version_of w ≡ v) → HasVersion versions key
        by (w, (k, l, at), s) = (k, w, l, at, ap (λ (z : histories.Version). z.key) s ∙ e)

    from : (key : ObjectKey) → (v : histories.Version) × Contains h.versions v × (v.key ≡ key) → IsSome (get key_order machine.objects key)
    from key w = subst (λ o. IsSome o) (sym (all.there key (has key w))) refl

    shown : (o : Option histories.Version) (key : ObjectKey) → IsLatest h.versions key h.start o
        → option_and_then (λ revision. find (λ (v : histories.Version). v.revision == revision) h.versions) (option_map (λ (v : histories.Version). v.revision) o) ≡ o
    shown None key is = refl
    shown (Some v) key is = found_by h v r is.0

    objects : (key : ObjectKey) → objects_in h machine.objects key ≡ latest h.versions key h.start
    objects key = go (get key_order machine.objects key) refl (find (λ (v : histories.Version). same_key v.key key) h.versions) refl
      where
        go : (g : Option (Option ℕ)) → get key_order machine.objects key ≡ g → (o : Option histories.Version) → find (λ (v : histories.Version). same_key v.key key) h.versions ≡ o
            → option_and_then (λ revision. find (λ (v : histories.Version). v.revision == revision) h.versions) (held g) ≡ latest h.versions key h.start
        go g e (Some v) q = ap (λ o. option_and_then (λ revision. find (λ (v : histories.Version). v.revision == revision) h.versions) (held o)) (sym e ∙ all.there key (has key (v, f.0, (key_decides v.key key).0 f.1)))
            ∙ shown (latest h.versions key h.start) key (latest_is h.versions key h.start)
          where
            f : Contains h.versions v × (same_key v.key key ≡ true)
            f = found_in (λ (v : histories.Version). same_key v.key key) h.versions v q
        go None e None q = at (latest h.versions key h.start) (latest_is h.versions key h.start)
          where
            at : (o : Option histories.Version) → IsLatest h.versions key h.start o → None ≡ o
            at None is = refl
            at (Some v) is = absurd (not_found (λ (v : histories.Version). same_key v.key key) h.versions q v is.0 (key_is v.key key is.1))
        go (Some revision) e None q = absurd (at (to key (subst (λ o. IsSome o) (sym e) refl)))
          where
            at : (v : histories.Version) × Contains h.versions v × (v.key ≡ key) → ⊥
            at (v, c, k) = not_found (λ (v : histories.Version). same_key v.key key) h.versions q v c (key_is v.key key k)
