-- What is kept of versions is kept with one more.
use Rattle.std.proofs.Common.{◌≡◌, ◌≢◌, ℕ, zero, suc, ◌+◌, ◌<◌, ◌≤◌, ◌⊎◌, inl, inr, ⊎_elim, Bool, true, false, not, bytes_eq, Decides, List, [], ◌∷◌, ◌++◌, length, map, slice_get, Option, Some, None, refl, sym, ap, ◌∙◌, subst, arith, true≢false, length-append}
use Rattle.std.specs.Prelude.{◌↔◌, IsTrue, All, AllPairs, Any, Contains}
use Rattle.std.proofs.lemmas.Bool.{cond-true, cond-false}
use Rattle.std.proofs.lemmas.Bool.Decides.{Decides-and, Decides-like}
use Rattle.std.proofs.lemmas.List.Elements.{Contains-push, Contains-push_cases, Contains-append_left}
use Rattle.std.proofs.lemmas.Option.{same_Some, slice_get_within}
use Rattle.std.proofs.lemmas.List.{map-append, take-append-le, take_at}
use Rattle.std.specs.Cmp.Lexicographic.{bytes_decides}
use Rattle.std.specs.HashMap.{get, Updates}
use Rattle.std.specs.HashSet as set
use Rattle.base_types.specs.declared.kubernetes.key.ObjectKey.{ObjectKey}
use Rattle.hash_seed.specs.declared.seed.Seeded.{Seeded}
use Rattle.history_model.proofs.KeyLemmas.{key_decides, key_tells}
use Rattle.history_model.proofs.Members.{all_at, all_from, apart, at_in, in_cons, not_in_none, pairs_cons, pairs_head, pairs_tail}
use Rattle.history_model.specs.Histories as past
use Rattle.history_model.specs.Incarnations.{IsFirstWithUid}
use Rattle.past_building.proofs.Firsts.{first_later, first_continued, first_new, not_first}
use Rattle.object_past.proofs.Looking.{in_map, from_map}
use Rattle.past_building.proofs.Mapped.{no_true, pairs_push, any_in, in_any}
use Rattle.past_building.specs.Growing.{AddsUid, AreFlagged, AreLinked, AreVersionsKept, HasNone, IsContinued, IsFirst, IsLastAt, IsLastOf}
use Rattle.past_building.specs.Keyed.{OwnerSet, Positions, UidSet, key_eq}
use Rattle.object_past.specs.Modelled.{version_of}
use Rattle.past_building.specs.Owners.{owner_eq, owner_of}
use Rattle.past_building.specs.declared.owner.Owner.{Owner}
use Rattle.object_past.specs.declared.version.Version.{Version}

-- the key's last version is still the last, unless the new one is of the key
last_kept : (versions : List Version) (v w : Version) (key : ObjectKey) → v.key ≢ key → IsLastOf versions key w → IsLastOf (versions ++ v ∷ []) key w
last_kept versions v w key other last = record {
  known = Contains-append_left versions (v ∷ []) w last.known;
  of_key = last.of_key;
  greatest = all_from (λ x. x.key ≡ key → x.revision ≤ w.revision) (versions ++ v ∷ []) (λ x among is. ⊎_elim
      (λ before. all_at (λ y. y.key ≡ key → y.revision ≤ w.revision) versions x last.greatest before is)
      (λ same. absurd (other (ap (λ (y : Version). y.key) same ∙ is)))
      (Contains-push_cases versions v x among));
}

last_new : (versions : List Version) (v : Version) → All (λ w. w.revision < v.revision) versions → IsLastOf (versions ++ v ∷ []) v.key v
last_new versions v below = record {
  known = Contains-push versions v;
  of_key = refl;
  greatest = all_from (λ x. x.key ≡ v.key → x.revision ≤ v.revision) (versions ++ v ∷ []) (λ x among is. ⊎_elim
      (λ before. let lower = all_at (λ w. w.revision < v.revision) versions x below before in omega arith)
      (λ same. let e = ap (λ (y : Version). y.revision) same in omega arith)
      (Contains-push_cases versions v x among));
}

none_kept : (versions : List Version) (v : Version) (key : ObjectKey) → v.key ≢ key → HasNone versions key → HasNone (versions ++ v ∷ []) key
none_kept versions v key other none = all_from (λ w. w.key ≢ key) (versions ++ v ∷ []) (λ x among. ⊎_elim
    (λ before. all_at (λ w. w.key ≢ key) versions x none before)
    (λ same is. other (ap (λ (y : Version). y.key) same ∙ is))
    (Contains-push_cases versions v x among))

pub get_before : {X : Type 0} (xs ys : List X) (i : ℕ) (x : X) → slice_get xs i ≡ Some x → slice_get (xs ++ ys) i ≡ Some x
get_before [] ys i x at = absurd (cc at)
get_before (y ∷ xs) ys zero x at = at
get_before (y ∷ xs) ys (suc i) x at = get_before xs ys i x at

pub get_last : {X : Type 0} (xs : List X) (y : X) → slice_get (xs ++ y ∷ []) (length xs) ≡ Some y
get_last [] y = refl
get_last (x ∷ xs) y = get_last xs y

-- a member of a longer list is one of the list, or the last
pub get_cases : {X : Type 0} (xs : List X) (y : X) (i : ℕ) (x : X) → slice_get (xs ++ y ∷ []) i ≡ Some x → (slice_get xs i ≡ Some x) ⊎ ((i ≡ length xs) × (y ≡ x))
get_cases [] y zero x at = inr (refl, same_Some y x at)
get_cases [] y (suc i) x at = absurd (cc at)
get_cases (z ∷ xs) y zero x at = inl at
get_cases (z ∷ xs) y (suc i) x at = ⊎_elim inl (λ last. inr (ap suc last.0, last.1)) (get_cases xs y i x at)

lasts_kept : (versions : List Version) (v : Version) (key : ObjectKey) (at : Option ℕ) → v.key ≢ key → IsLastAt versions key at → IsLastAt (versions ++ v ∷ []) key at
lasts_kept versions v key None other none = none_kept versions v key other none
lasts_kept versions v key (Some position) other last = (last.0, get_before versions (v ∷ []) position last.0 last.1, last_kept versions v last.0 key other last.2)

-- the positions of the latest versions, with that of one more
pub lasts_more : (versions : List Version) (v : Version) (old new : Positions) → All (λ w. w.revision < v.revision) versions
    → ((key : ObjectKey) → IsLastAt versions key (get key_eq old key)) → Updates key_eq old new v.key (Some (length versions))
    → (key : ObjectKey) → IsLastAt (versions ++ v ∷ []) key (get key_eq new key)
lasts_more versions v old new below lasts updates key = ⊎_elim
    (λ same. subst (IsLastAt (versions ++ v ∷ []) key) (sym (updates.0 key ∙ cond-true (key_eq v.key key) (Some (length versions)) (get key_eq old key) same.0))
    (v, get_last versions v, subst (λ k. IsLastOf (versions ++ v ∷ []) k v) same.1 (last_new versions v below)))
    (λ other. subst (IsLastAt (versions ++ v ∷ []) key) (sym (updates.0 key ∙ cond-false (key_eq v.key key) (Some (length versions)) (get key_eq old key) other.0))
    (lasts_kept versions v key (get key_eq old key) other.1 (lasts key)))
    (key_tells v.key key)

-- the positions of the versions before others of their keys, with that of one more
links_more : (versions : List Version) (earlier : List (Option ℕ)) (v : Version) (before : Option ℕ) → AreLinked versions earlier → IsLastAt versions v.key before
    → AreLinked (versions ++ v ∷ []) (earlier ++ before ∷ [])
links_more versions earlier v before linked last = record {
  all = length-append earlier (before ∷ []) ∙ ap (λ n. n + 1) linked.all ∙ sym (length-append versions (v ∷ []));
  each = λ position w b at_w at_b. ⊎_elim
      (λ old. ⊎_elim
      (λ old_b. let within = slice_get_within versions position w old in
      subst (λ l. IsLastAt l w.key b) (sym (take-append-le position versions (v ∷ []) (omega (arith, within)))) (linked.each position w b old old_b))
      (λ last_b. absurd (let within = slice_get_within versions position w old in let e = linked.all in let i = last_b.0 in omega arith))
      (get_cases earlier before position b at_b))
      (λ new. ⊎_elim
      (λ old_b. absurd (let within = slice_get_within earlier position b old_b in let e = linked.all in let i = new.0 in omega arith))
      (λ last_b. subst (λ l. IsLastAt l w.key b) (sym (take_at versions (v ∷ []) position (sym new.0)))
      (subst (λ (x : Version). IsLastAt versions x.key b) new.1 (subst (IsLastAt versions v.key) last_b.1 last)))
      (get_cases earlier before position b at_b))
      (get_cases versions v position w at_w);
}

-- what a test that decides whether two are one tells of them
told : {K : Type 0} (eq : K → K → Bool) → ((a b : K) → Decides (eq a b) (a ≡ b)) → (a b : K) → ((eq a b ≡ true) × (a ≡ b)) ⊎ ((eq a b ≡ false) × (a ≢ b))
told {K} eq decides a b = go (eq a b) refl
  where
    go : (t : Bool) → eq a b ≡ t → ((eq a b ≡ true) × (a ≡ b)) ⊎ ((eq a b ≡ false) × (a ≢ b))
    go true is = inl (is, (decides a b).0 is)
    go false is = inr (is, λ same. true≢false (sym ((decides a b).1 same) ∙ is))

-- a set of what versions have, with that of one more
set_more : {K : Type 0} (eq : K → K → Bool) → ((a b : K) → Decides (eq a b) (a ≡ b)) → (f : Version → K) (versions : List Version) (v : Version) (old new : set.HashSet K Seeded)
    → ((k : K) → IsTrue (set.contains eq old k) ↔ Any (λ w. f w ≡ k) versions) → set.Updates eq old new (f v) true
    → (k : K) → IsTrue (set.contains eq new k) ↔ Any (λ w. f w ≡ k) (versions ++ v ∷ [])
set_more {K} eq decides f versions v old new has updates k = (forth, back)
  where
    forth : IsTrue (set.contains eq new k) → Any (λ w. f w ≡ k) (versions ++ v ∷ [])
    forth held = ⊎_elim
        (λ same. in_any (λ w. f w ≡ k) (versions ++ v ∷ []) v (Contains-push versions v) same.1)
        (λ other. let before = (has k).0 (subst IsTrue (updates.0 k ∙ cond-false (eq (f v) k) true (set.contains eq old k) other.0) held) in
        let found = any_in (λ w. f w ≡ k) versions before in
        in_any (λ w. f w ≡ k) (versions ++ v ∷ []) found.0 (Contains-append_left versions (v ∷ []) found.0 found.1) found.2)
        (told eq decides (f v) k)

    back : Any (λ w. f w ≡ k) (versions ++ v ∷ []) → IsTrue (set.contains eq new k)
    back any = let found = any_in (λ w. f w ≡ k) (versions ++ v ∷ []) any in ⊎_elim
        (λ same. subst IsTrue (sym (updates.0 k ∙ cond-true (eq (f v) k) true (set.contains eq old k) same.0)) refl)
        (λ other. subst IsTrue (sym (updates.0 k ∙ cond-false (eq (f v) k) true (set.contains eq old k) other.0))
        (⊎_elim
        (λ before. (has k).1 (in_any (λ w. f w ≡ k) versions found.0 before found.2))
        (λ last. absurd (other.1 (ap f last ∙ found.2)))
        (Contains-push_cases versions v found.0 found.1)))
        (told eq decides (f v) k)

-- the set, where another version has the same as the one more
set_same : {K : Type 0} (f : Version → K) (versions : List Version) (p v : Version) (Has : K → Type 0) → Contains versions p → f p ≡ f v
    → ((k : K) → Has k ↔ Any (λ w. f w ≡ k) versions) → (k : K) → Has k ↔ Any (λ w. f w ≡ k) (versions ++ v ∷ [])
set_same {K} f versions p v Has known same has k = (forth, back)
  where
    forth : Has k → Any (λ w. f w ≡ k) (versions ++ v ∷ [])
    forth held = let found = any_in (λ w. f w ≡ k) versions ((has k).0 held) in
        in_any (λ w. f w ≡ k) (versions ++ v ∷ []) found.0 (Contains-append_left versions (v ∷ []) found.0 found.1) found.2

    back : Any (λ w. f w ≡ k) (versions ++ v ∷ []) → Has k
    back any = let found = any_in (λ w. f w ≡ k) (versions ++ v ∷ []) any in ⊎_elim
        (λ before. (has k).1 (in_any (λ w. f w ≡ k) versions found.0 before found.2))
        (λ is. (has k).1 (in_any (λ w. f w ≡ k) versions p known (same ∙ ap f is ∙ found.2)))
        (Contains-push_cases versions v found.0 found.1)

-- a uid that is put adds itself
pub uid_added : (old new : UidSet) (uid : List ℕ) → set.Updates bytes_eq old new uid true → AddsUid old new uid
uid_added old new uid updates k = ⊎_elim
    (λ same. (
      (λ held. inl same.1),
      λ either. subst IsTrue (sym (updates.0 k ∙ cond-true (bytes_eq uid k) true (set.contains bytes_eq old k) same.0)) refl,
    ))
    (λ other. let kept = updates.0 k ∙ cond-false (bytes_eq uid k) true (set.contains bytes_eq old k) other.0 in (
      (λ held. inr (subst IsTrue kept held)),
      λ either. ⊎_elim
          (λ same. absurd (other.1 same))
          (λ held. subst IsTrue (sym kept) held)
          either,
    ))
    (told bytes_eq bytes_decides uid k)

-- the uids of versions, with that of one more
uids_more : (versions : List Version) (v : Version) (old new : UidSet) → ((uid : List ℕ) → IsTrue (set.contains bytes_eq old uid) ↔ Any (λ w. w.uid ≡ uid) versions)
    → AddsUid old new v.uid → (uid : List ℕ) → IsTrue (set.contains bytes_eq new uid) ↔ Any (λ w. w.uid ≡ uid) (versions ++ v ∷ [])
uids_more versions v old new has adds uid = (forth, back)
  where
    forth : IsTrue (set.contains bytes_eq new uid) → Any (λ w. w.uid ≡ uid) (versions ++ v ∷ [])
    forth held = ⊎_elim
        (λ same. in_any (λ w. w.uid ≡ uid) (versions ++ v ∷ []) v (Contains-push versions v) same)
        (λ before. let found = any_in (λ w. w.uid ≡ uid) versions ((has uid).0 before) in
        in_any (λ w. w.uid ≡ uid) (versions ++ v ∷ []) found.0 (Contains-append_left versions (v ∷ []) found.0 found.1) found.2)
        ((adds uid).0 held)

    back : Any (λ w. w.uid ≡ uid) (versions ++ v ∷ []) → IsTrue (set.contains bytes_eq new uid)
    back any = let found = any_in (λ w. w.uid ≡ uid) (versions ++ v ∷ []) any in (adds uid).1 (⊎_elim
        (λ before. inr ((has uid).1 (in_any (λ w. w.uid ≡ uid) versions found.0 before found.2)))
        (λ same. inl (ap (λ (w : Version). w.uid) same ∙ found.2))
        (Contains-push_cases versions v found.0 found.1))

abbrev owner_with : ObjectKey → List ℕ → Owner
owner_with key uid = record { key = key; uid = uid }

owner_same : (a b : Version) → a.key ≡ b.key → a.uid ≡ b.uid → owner_of a ≡ owner_of b
owner_same a b key uid = λ i. owner_with (key i) (uid i)

owner_decides : (a b : Owner) → Decides (owner_eq a b) (a ≡ b)
owner_decides a b = Decides-like (owner_eq a b) (λ parts. λ i. owner_with (parts.0 i) (parts.1 i)) (λ same. (ap (λ (o : Owner). o.key) same, ap (λ (o : Owner). o.uid) same))
    (Decides-and (key_eq a.key b.key) (bytes_eq a.uid b.uid) (key_decides a.key b.key) (bytes_decides a.uid b.uid))

-- the flags of versions, with that of one more
flagged_more : (versions : List Version) (firsts : List Bool) (v : Version) (is_first : Bool) → All (λ w. w.revision < v.revision) versions
    → AreFlagged versions firsts → (IsTrue is_first ↔ IsFirst (versions ++ v ∷ []) v) → AreFlagged (versions ++ v ∷ []) (firsts ++ is_first ∷ [])
flagged_more versions firsts v is_first below flagged flag = record {
  all = length-append firsts (is_first ∷ []) ∙ ap (λ n. n + 1) flagged.all ∙ sym (length-append versions (v ∷ []));
  each = λ position w b at_w at_b. ⊎_elim
      (λ before. ⊎_elim
      (λ flag_before. let old = flagged.each position w b before flag_before in
      let kept = first_later (map version_of versions) (version_of v ∷ []) (version_of w) (λ x among. later w (at_in versions position w before) x among) in (
        (λ t. subst (λ l. IsFirstWithUid l (version_of w)) (sym (map-append version_of versions (v ∷ []))) (kept.0 (old.0 t))),
        (λ first. old.1 (kept.1 (subst (λ l. IsFirstWithUid l (version_of w)) (map-append version_of versions (v ∷ [])) first))),
      ))
      (λ last. absurd (let within = slice_get_within versions position w before in let e = flagged.all in let i = last.0 in omega arith))
      (get_cases firsts is_first position b at_b))
      (λ last. ⊎_elim
      (λ flag_before. absurd (let within = slice_get_within firsts position b flag_before in let e = flagged.all in let i = last.0 in omega arith))
      (λ flag_last. subst (λ x. IsTrue x ↔ IsFirst (versions ++ v ∷ []) w) flag_last.1 (subst (λ x. IsTrue is_first ↔ IsFirst (versions ++ v ∷ []) x) last.1 flag))
      (get_cases firsts is_first position b at_b))
      (get_cases versions v position w at_w);
}
  where
    later : (w : Version) → Contains versions w → (x : past.Version) → Contains (version_of v ∷ []) x → (version_of w).revision ≤ x.revision
    later w known x among = ⊎_elim
        (λ is. let lower = all_at (λ y. y.revision < v.revision) versions w below known in let e = ap (λ (y : past.Version). y.revision) is in omega arith)
        (λ none. absurd (not_in_none none))
        (in_cons (version_of v) [] x among)

pub rising_in : (versions : List Version) → AllPairs (λ a b. a.revision < b.revision) versions → AllPairs (λ a b. a.revision < b.revision) (map version_of versions)
rising_in [] rising = λ i j d l m. absurd (omega arith)
rising_in (v ∷ versions) rising = pairs_cons (λ a b. a.revision < b.revision) (version_of v) (map version_of versions)
    (all_from (λ b. v.revision < b.revision) (map version_of versions) (λ b among. let from = from_map version_of versions b among in
    subst (λ (x : past.Version). v.revision < x.revision) from.2 (all_at (λ (w : Version). v.revision < w.revision) versions from.0 (pairs_head (λ a b. a.revision < b.revision) v versions rising) from.1)))
    (rising_in versions (pairs_tail (λ a b. a.revision < b.revision) v versions rising))

-- the flag of a version that continues its key's latest one
continued_flag : (versions : List Version) (p v : Version) (is_first : Bool) → AllPairs (λ a b. a.revision < b.revision) versions → All (λ w. w.revision < v.revision) versions
    → IsLastOf versions v.key p → p.uid ≡ v.uid → (IsTrue is_first ↔ IsFirst versions p) → IsTrue is_first ↔ IsFirst (versions ++ v ∷ []) v
continued_flag versions p v is_first rising below last same flag =
    let moved = first_continued (map version_of versions) (version_of p) (version_of v) (rising_in versions rising) (in_map version_of versions p last.known) last.of_key same
    (all_at (λ w. w.revision < v.revision) versions p below last.known)
    (λ w among of_key. let from = from_map version_of versions w among in
    subst (λ (x : past.Version). x.revision ≤ p.revision) from.2 (all_at (λ x. x.key ≡ v.key → x.revision ≤ p.revision) versions from.0 last.greatest from.1 (ap (λ (x : past.Version). x.key) from.2 ∙ of_key))) in (
      (λ t. subst (λ l. IsFirstWithUid l (version_of v)) (sym (map-append version_of versions (v ∷ []))) (moved.0 (flag.0 t))),
      (λ first. flag.1 (moved.1 (subst (λ l. IsFirstWithUid l (version_of v)) (map-append version_of versions (v ∷ [])) first))),
    )

-- the flag of a version that begins an incarnation
begun_flag : (versions : List Version) (v : Version) (had : Bool) → AllPairs (λ a b. a.revision < b.revision) versions → All (λ w. w.revision < v.revision) versions
    → ((p : Version) → IsLastOf versions v.key p → p.uid ≢ v.uid) → (at : Option ℕ) → IsLastAt versions v.key at
    → (IsTrue had ↔ Any (λ w. owner_of w ≡ owner_of v) versions) → IsTrue (not had) ↔ IsFirst (versions ++ v ∷ []) v
begun_flag versions v false rising below other at last owned = (
  (λ t. subst (λ l. IsFirstWithUid l (version_of v)) (sym (map-append version_of versions (v ∷ [])))
      (first_new (map version_of versions) (version_of v)
      (λ w among. let from = from_map version_of versions w among in
      subst (λ (x : past.Version). x.revision < v.revision) from.2 (all_at (λ x. x.revision < v.revision) versions from.0 below from.1))
      (λ w among of_key of_uid. let from = from_map version_of versions w among in
      no_true (owned.1 (in_any (λ x. owner_of x ≡ owner_of v) versions from.0 from.1
      (owner_same from.0 v (ap (λ (x : past.Version). x.key) from.2 ∙ of_key) (ap (λ (x : past.Version). x.uid) from.2 ∙ of_uid))))))),
  λ first. refl,
)
begun_flag versions v true rising below other None none owned =
    let found = any_in (λ w. owner_of w ≡ owner_of v) versions (owned.0 refl) in
    absurd (all_at (λ w. w.key ≢ v.key) versions found.0 none found.1 (ap (λ (o : Owner). o.key) found.2))
begun_flag versions v true rising below other (Some position) last owned =
    let found = any_in (λ w. owner_of w ≡ owner_of v) versions (owned.0 refl) in
    let p = last.0 in
    let key_is : found.0.key ≡ v.key = ap (λ (o : Owner). o.key) found.2 in (
      (λ t. absurd (no_true t)),
      λ first. absurd (not_first (map version_of versions) (version_of p) (version_of v) (version_of found.0) (rising_in versions rising)
          (in_map version_of versions p last.2.known) last.2.of_key (other p last.2) (all_at (λ w. w.revision < v.revision) versions p below last.2.known)
          (in_map version_of versions found.0 found.1) key_is (ap (λ (o : Owner). o.uid) found.2)
          (all_at (λ x. x.key ≡ v.key → x.revision ≤ p.revision) versions found.0 last.2.greatest found.1 key_is)
          (subst (λ l. IsFirstWithUid l (version_of v)) (map-append version_of versions (v ∷ [])) first)),
    )

-- how the owners, the uids and the flag come of the key's latest version
pub data IsOwned (versions : List Version) (v : Version) (owners new : OwnerSet) (uids new_uids : UidSet) (is_first : Bool) : Type 0 where
  continued : (p : Version) → IsLastOf versions v.key p → p.uid ≡ v.uid → (IsTrue is_first ↔ IsFirst versions p) → new ≡ owners → new_uids ≡ uids
      → IsOwned versions v owners new uids new_uids is_first
  begun : ((p : Version) → IsLastOf versions v.key p → p.uid ≢ v.uid) → is_first ≡ not (set.contains owner_eq owners (owner_of v))
      → set.Updates owner_eq owners new (owner_of v) true → AddsUid uids new_uids v.uid → IsOwned versions v owners new uids new_uids is_first

pub kept_more : (versions : List Version) (firsts : List Bool) (earlier : List (Option ℕ)) (last new_last : Positions) (owners new_owners : OwnerSet) (uids new_uids : UidSet)
    (v : Version) (before : Option ℕ) (is_first : Bool) → AreVersionsKept versions firsts earlier last owners uids → All (λ w. w.revision < v.revision) versions
    → before ≡ get key_eq last v.key → Updates key_eq last new_last v.key (Some (length versions)) → IsOwned versions v owners new_owners uids new_uids is_first
    → AreVersionsKept (versions ++ v ∷ []) (firsts ++ is_first ∷ []) (earlier ++ before ∷ []) new_last new_owners new_uids
kept_more versions firsts earlier last new_last owners new_owners uids new_uids v before is_first kept below found lasts owned = record {
  rising = pairs_push (λ a b. a.revision < b.revision) versions v kept.rising below;
  flagged = flagged_more versions firsts v is_first below kept.flagged (flag owned);
  linked = links_more versions earlier v before kept.linked (subst (IsLastAt versions v.key) (sym found) (kept.last_of v.key));
  last_of = lasts_more versions v last new_last below kept.last_of lasts;
  owned = owners_of owned;
  used = uids_of owned;
}
  where
    flag : IsOwned versions v owners new_owners uids new_uids is_first → IsTrue is_first ↔ IsFirst (versions ++ v ∷ []) v
    flag (continued p at same first is stay) = continued_flag versions p v is_first kept.rising below at same first
    flag (begun other is updates adds) = subst (λ b. IsTrue b ↔ IsFirst (versions ++ v ∷ []) v) (sym is)
        (begun_flag versions v (set.contains owner_eq owners (owner_of v)) kept.rising below other (get key_eq last v.key) (kept.last_of v.key) (kept.owned (owner_of v)))

    owners_of : IsOwned versions v owners new_owners uids new_uids is_first → (owner : Owner) → IsTrue (set.contains owner_eq new_owners owner) ↔ Any (λ w. owner_of w ≡ owner) (versions ++ v ∷ [])
    owners_of (continued p at same first is stay) = λ owner. subst (λ o. IsTrue (set.contains owner_eq o owner) ↔ Any (λ w. owner_of w ≡ owner) (versions ++ v ∷ [])) (sym is)
        (set_same owner_of versions p v (λ k. IsTrue (set.contains owner_eq owners k)) at.known (owner_same p v at.of_key same) kept.owned owner)
    owners_of (begun other is updates adds) = set_more owner_eq owner_decides owner_of versions v owners new_owners kept.owned updates

    uids_of : IsOwned versions v owners new_owners uids new_uids is_first → (uid : List ℕ) → IsTrue (set.contains bytes_eq new_uids uid) ↔ Any (λ w. w.uid ≡ uid) (versions ++ v ∷ [])
    uids_of (continued p at same first is stay) = λ uid. subst (λ s. IsTrue (set.contains bytes_eq s uid) ↔ Any (λ w. w.uid ≡ uid) (versions ++ v ∷ [])) (sym stay)
        (set_same (λ w. w.uid) versions p v (λ u. IsTrue (set.contains bytes_eq uids u)) at.known same kept.used uid)
    uids_of (begun other is updates adds) = uids_more versions v uids new_uids kept.used adds

none_past : (xs : List Bool) (i : ℕ) → slice_get xs i ≡ None → length xs ≤ i
none_past [] i none = omega arith
none_past (x ∷ xs) zero none = absurd (cc none)
none_past (x ∷ xs) (suc i) none = omega (arith, none_past xs i none)

-- the key's latest version, as it is found
pub latest_found : (versions : List Version) (firsts : List Bool) (earlier : List (Option ℕ)) (last : Positions) (owners : OwnerSet) (uids : UidSet) (key : ObjectKey) (position : ℕ) (v : Version) (is_first : Bool)
    → AreVersionsKept versions firsts earlier last owners uids → get key_eq last key ≡ Some position → slice_get versions position ≡ Some v → slice_get firsts position ≡ Some is_first
    → IsLastOf versions key v × (IsTrue is_first ↔ IsFirst versions v)
latest_found versions firsts earlier last owners uids key position v is_first kept found at flag =
    let known : IsLastAt versions key (Some position) = subst (IsLastAt versions key) found (kept.last_of key) in
    let same : known.0 ≡ v = same_Some known.0 v (sym known.1 ∙ at) in
    (subst (IsLastOf versions key) same known.2, kept.flagged.each position v is_first at flag)

pub latest_known : (versions : List Version) (firsts : List Bool) (earlier : List (Option ℕ)) (last : Positions) (owners : OwnerSet) (uids : UidSet) (key : ObjectKey) (position : ℕ)
    → AreVersionsKept versions firsts earlier last owners uids → get key_eq last key ≡ Some position → slice_get versions position ≡ None → ⊥
latest_known versions firsts earlier last owners uids key position kept found none =
    let known : IsLastAt versions key (Some position) = subst (IsLastAt versions key) found (kept.last_of key) in cc (sym known.1 ∙ none)

pub latest_flagged : (versions : List Version) (firsts : List Bool) (earlier : List (Option ℕ)) (last : Positions) (owners : OwnerSet) (uids : UidSet) (key : ObjectKey) (position : ℕ)
    → AreVersionsKept versions firsts earlier last owners uids → get key_eq last key ≡ Some position → slice_get firsts position ≡ None → ⊥
latest_flagged versions firsts earlier last owners uids key position kept found none =
    let known : IsLastAt versions key (Some position) = subst (IsLastAt versions key) found (kept.last_of key) in
    let within = slice_get_within versions position known.0 known.1 in
    let long = kept.flagged.all in
    let past = none_past firsts position none in
    omega arith

-- a key has one latest version
pub last_same : (versions : List Version) (key : ObjectKey) (a b : Version) → AllPairs (λ x y. x.revision < y.revision) versions → IsLastOf versions key a → IsLastOf versions key b → a ≡ b
last_same versions key a b rising x y = apart (λ (v : Version). v.revision) versions a b rising x.known y.known
    (let up = all_at (λ w. w.key ≡ key → w.revision ≤ a.revision) versions b x.greatest y.known y.of_key in
    let down = all_at (λ w. w.key ≡ key → w.revision ≤ b.revision) versions a y.greatest x.known x.of_key in omega arith)

-- the key's latest version, by its position
latest_at : (versions : List Version) (key : ObjectKey) (before : Option ℕ) (position : ℕ) (v : Version) → IsLastAt versions key before → before ≡ Some position
    → slice_get versions position ≡ Some v → IsLastOf versions key v
latest_at versions key before position v last is at =
    let known : IsLastAt versions key (Some position) = subst (IsLastAt versions key) is last in
    subst (IsLastOf versions key) (same_Some known.0 v (sym known.1 ∙ at)) known.2

-- a version of another uid than its key's latest one continues none
pub continues_other : (versions : List Version) (version : Version) (before : Option ℕ) (position : ℕ) (latest : Version) → AllPairs (λ a b. a.revision < b.revision) versions
    → IsLastAt versions version.key before → before ≡ Some position → slice_get versions position ≡ Some latest → latest.uid ≢ version.uid → IsContinued versions version None
continues_other versions version before position latest rising last is at other = λ v of_v same.
    other (ap (λ (w : Version). w.uid) (last_same versions version.key latest v rising (latest_at versions version.key before position latest last is at) of_v) ∙ same)

-- a version of the latest one's uid continues that
pub continues_latest : (versions : List Version) (firsts : List Bool) (version : Version) (before : Option ℕ) (position : ℕ) (latest : Version) (flag : Option Bool) → AreFlagged versions firsts
    → IsLastAt versions version.key before → before ≡ Some position → slice_get versions position ≡ Some latest → latest.uid ≡ version.uid → flag ≡ slice_get firsts position
    → IsContinued versions version flag
continues_latest versions firsts version before position latest None flagged last is at same flag_is = absurd (
    let within = slice_get_within versions position latest at in
    let long = flagged.all in
    let past = none_past firsts position (sym flag_is) in
    omega (arith, within, long, past))
continues_latest versions firsts version before position latest (Some is_first) flagged last is at same flag_is =
    (latest, latest_at versions version.key before position latest last is at, same, flagged.each position latest is_first at (sym flag_is))
