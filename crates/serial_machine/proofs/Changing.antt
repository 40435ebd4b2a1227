-- What a step leaves of the objects that are held.
use Rattle.std.proofs.Common.{◌≡◌, ◌≢◌, ℕ, ◌⊎◌, ◌↔◌, ◌==◌, Bool, true, false, cond, List, [], ◌∷◌, ◌++◌, find, Option, Some, None, IsSome, Contains, inl, inr, refl, sym, ap, ◌∙◌, subst}
use Rattle.std.specs.Prelude.{option_and_then}
use Rattle.std.specs.BTreeMap.{BTreeMap, Updates, get}
use Rattle.std.specs.Ordering.{is_eq}
use Rattle.base_types.specs.declared.kubernetes.key.ObjectKey.{ObjectKey}
use Rattle.base_types.specs.Keys.{same_key}
use Rattle.clouds.proofs.Adding.{same_key_from}
use Rattle.clouds.specs.Kept.{key_order}
use Rattle.history_model.proofs.KeyLemmas.{key_tells}
use Rattle.history_model.proofs.Members.{apart}
use Rattle.history_model.proofs.WordLemmas.{find_is, eq_test, test_eq}
use Rattle.history_model.specs.Histories.{History, Version}
use Rattle.history_model.specs.Incarnations.{IsRemoval}
use Rattle.history_model.specs.Machine.{Step, Put, Remove, Reply, after, after_all, put_at, snapshot_map, step_place}
use Rattle.history_model.specs.Readable.{IsReadable}
use Rattle.history_model.specs.States.{Cut, Map}
use Rattle.serial_machine.proofs.Unmade.{after_append, end_append}
use Rattle.serial_machine.specs.Held.{HasMade, HasRooms, held, objects_in}
use Rattle.serial_machine.specs.declared.machine.Machine.{Machine}
use Rattle.log_context.specs.Uses.{AreUsesOf}

-- the version of a revision is found
pub found_by : (h : History) (v : Version) → IsReadable h → Contains h.versions v → find (λ w. w.revision == v.revision) h.versions ≡ Some v
found_by h v r c = find_is (λ w. w.revision == v.revision) h.versions v c (test_eq v.revision v.revision refl)
    (λ w d t. apart (λ z. z.revision) h.versions w v r.versions.rising d c (eq_test w.revision v.revision t))

-- another value under one key
module _ (h : History) (old new : BTreeMap ObjectKey (Option ℕ)) (key : ObjectKey) (revision : Option ℕ) (updates : Updates key_order old new key (Some revision)) where
  at_key : (other : ObjectKey) → other ≡ key → get key_order new other ≡ Some revision
  at_key other e = ap (get key_order new) e ∙ updates.1

  at_other : (other : ObjectKey) → (other ≡ key → ⊥) → get key_order new other ≡ get key_order old other
  at_other other n = updates.2 other (by (is_eq (key_order key other)) refl)
    where
      by : (t : Bool) → is_eq (key_order key other) ≡ t → is_eq (key_order key other) ≡ false
      by true e = absurd (n (sym (same_key_from key other e)))
      by false e = e

  pub held_after : (other : ObjectKey) → objects_in h new other
      ≡ cond (same_key other key) (option_and_then (λ revision. find (λ (v : Version). v.revision == revision) h.versions) revision) (objects_in h old other)
  held_after other = go (key_tells other key)
    where
      go : ((same_key other key ≡ true) × (other ≡ key)) ⊎ ((same_key other key ≡ false) × (other ≢ key))
          → objects_in h new other ≡ cond (same_key other key) (option_and_then (λ revision. find (λ (v : Version). v.revision == revision) h.versions) revision) (objects_in h old other)
      go (inl t) = ap (λ g. option_and_then (λ revision. find (λ (v : Version). v.revision == revision) h.versions) (held g)) (at_key other t.1)
          ∙ sym (ap (λ b. cond b (option_and_then (λ revision. find (λ (v : Version). v.revision == revision) h.versions) revision) (objects_in h old other)) t.0)
      go (inr t) = ap (λ g. option_and_then (λ revision. find (λ (v : Version). v.revision == revision) h.versions) (held g)) (at_other other t.1)
          ∙ sym (ap (λ b. cond b (option_and_then (λ revision. find (λ (v : Version). v.revision == revision) h.versions) revision) (objects_in h old other)) t.0)

  pub rooms_after : IsSome (get key_order old key) → HasRooms h old → HasRooms h new
  rooms_after some rooms = λ other. go other (key_tells other key)
    where
      go : (other : ObjectKey) → ((same_key other key ≡ true) × (other ≡ key)) ⊎ ((same_key other key ≡ false) × (other ≢ key))
          → IsSome (get key_order new other) ↔ ((v : Version) × Contains h.versions v × (v.key ≡ other))
      go other (inl t) = (
        λ s. (rooms other).0 (subst (λ k. IsSome (get key_order old k)) (sym t.1) some),
        λ w. subst (λ o. IsSome o) (sym (at_key other t.1)) refl,
      )
      go other (inr t) = (
        λ s. (rooms other).0 (subst (λ o. IsSome o) (at_other other t.1) s),
        λ w. subst (λ o. IsSome o) (sym (at_other other t.1)) ((rooms other).1 w),
      )

-- the key of a removal had a version
pub removal_key : (h : History) (cut : Cut) → IsReadable h → Contains h.removals cut.removal → (v : Version) × Contains h.versions v × (v.key ≡ cut.removal.key)
removal_key h cut r c = go (r.removals.sound cut.removal c)
  where
    go : IsRemoval h cut.removal → (v : Version) × Contains h.versions v × (v.key ≡ cut.removal.key)
    go i = (i.version, i.known, sym i.behind.of_key)

-- where a key has a version, it is there
has_room : (h : History) (old : BTreeMap ObjectKey (Option ℕ)) (key : ObjectKey) → HasRooms h old → (v : Version) × Contains h.versions v × (v.key ≡ key) → IsSome (get key_order old key)
has_room h old key rooms w = (rooms key).1 w

module _ (h : History) (old new : BTreeMap ObjectKey (Option ℕ)) (v : Version) (r : IsReadable h) (c : Contains h.versions v)
    (updates : IsSome (get key_order old v.key) → Updates key_order old new v.key (Some (Some v.revision))) (rooms : HasRooms h old) where
  pub put_rooms : HasRooms h new
  put_rooms = let some = has_room h old v.key rooms (v, c, refl) in rooms_after h old new v.key (Some v.revision) (updates some) some rooms

  pub put_changes : (key : ObjectKey) → objects_in h new key ≡ after (objects_in h old) (Put v) key
  put_changes key = held_after h old new v.key (Some v.revision) (updates (has_room h old v.key rooms (v, c, refl))) key
      ∙ ap (λ o. cond (same_key key v.key) o (objects_in h old key)) (found_by h v r c)

module _ (h : History) (old new : BTreeMap ObjectKey (Option ℕ)) (cut : Cut) (r : IsReadable h) (c : Contains h.removals cut.removal)
    (updates : IsSome (get key_order old cut.removal.key) → Updates key_order old new cut.removal.key (Some None)) (rooms : HasRooms h old) where
  pub removal_rooms : HasRooms h new
  removal_rooms = let some = has_room h old cut.removal.key rooms (removal_key h cut r c) in rooms_after h old new cut.removal.key None (updates some) some rooms

  pub removal_changes : (key : ObjectKey) → objects_in h new key ≡ after (objects_in h old) (Remove cut) key
  removal_changes key = held_after h old new cut.removal.key None (updates (has_room h old cut.removal.key rooms (removal_key h cut r c))) key

-- one step more
pub made_more : (h : History) (old new : Machine) (done : List Step) (step : Step) → HasMade h old done → HasRooms h new.objects → AreUsesOf h new.uses
    → ((key : ObjectKey) → objects_in h new.objects key ≡ after (objects_in h old.objects) step key) → new.place ≡ step_place step → HasMade h new (done ++ step ∷ [])
made_more h old new done step made rooms uses objects place = record {
  readable = made.readable;
  objects = λ key. objects key ∙ after_alike key step ∙ ap (λ (m : Map). m key) (sym (after_append done (step ∷ []) (snapshot_map h)));
  rooms = rooms;
  uses = uses;
  place = place ∙ sym (end_append h.start done (step ∷ []));
}
  where
    put_alike : (a b : Map) (key other : ObjectKey) (entry : Option Version) → a other ≡ b other → put_at a key entry other ≡ put_at b key entry other
    put_alike a b key other entry e = ap (cond (same_key other key) entry) e

    after_alike : (key : ObjectKey) (step : Step) → after (objects_in h old.objects) step key ≡ after (after_all (snapshot_map h) done) step key
    after_alike key (Put v) = put_alike (objects_in h old.objects) (after_all (snapshot_map h) done) v.key key (Some v) (made.objects key)
    after_alike key (Remove cut) = put_alike (objects_in h old.objects) (after_all (snapshot_map h) done) cut.removal.key key None (made.objects key)
    after_alike key (Reply number event place) = made.objects key
