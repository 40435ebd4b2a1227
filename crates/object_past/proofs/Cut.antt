-- The incarnations of a key, as its versions come one after another.
use Rattle.std.proofs.Common.{◌≡◌, ◌≢◌, ℕ, zero, suc, ◌+◌, ◌-◌, ◌<◌, ◌≤◌, ◌⊎◌, ⊎_elim, inl, inr, List, [], ◌∷◌, ◌++◌, length, get_or, set, Option, Some, slice_get, refl, sym, ◌∙◌, subst, ap, arith}
use Rattle.std.specs.List.{All, AllPairs, Any, Contains}
use Rattle.std.proofs.lemmas.Bool.{cases_lt}
use Rattle.std.proofs.lemmas.List.Elements.{All-push, All-weaker, Contains-append_left, Contains-get_or, Contains-push, Contains-push_cases}
use Rattle.std.proofs.lemmas.Option.{same_Some, slice_get_read}
use Rattle.base_types.proofs.Quantifiers.{Any-contains}
use Rattle.base_types.specs.declared.kubernetes.key.ObjectKey.{ObjectKey}
use Rattle.history_model.proofs.Members.{all_at, all_from, here, in_cons, pairs_cons, pairs_head, pairs_tail, there}
use Rattle.object_past.specs.Incarnated.{AreIncarnations, IsExtended, IsIncarnation, IsNext, begun, continued, last_of}
use Rattle.object_past.specs.Incarnated.IsExtended.{continues, begins}
use Rattle.object_past.specs.Past.{HasVersionAt, IsRemovalOf, Recorded}
use Rattle.object_past.specs.declared.incarnation.Incarnation.{Incarnation}
use Rattle.object_past.specs.declared.removal.Removal.{Removal}
use Rattle.object_past.specs.declared.version.Version.{Version}

-- ---- lists

pub pairs_push : {X : Type 0} (R : X → X → Type 0) (xs : List X) (y : X) → AllPairs R xs → ((x : X) → Contains xs x → R x y) → AllPairs R (xs ++ y ∷ [])
pairs_push R [] y pairs all = pairs_cons R y [] (λ k d below. absurd (omega arith)) pairs
pairs_push R (x ∷ xs) y pairs all = pairs_cons R x (xs ++ y ∷ [])
    (all_from (R x) (xs ++ y ∷ []) (λ z among. ⊎_elim
    (λ before. all_at (R x) xs z (pairs_head R x xs pairs) before)
    (λ is. subst (R x) is (all x (here x xs)))
    (Contains-push_cases xs y z among)))
    (pairs_push R xs y (pairs_tail R x xs pairs) (λ z among. all z (there x z xs among)))

-- a pair of a list, by its last element
pairs_last : {X : Type 0} (R : X → X → Type 0) (xs : List X) (y x : X) → AllPairs R (xs ++ y ∷ []) → Contains xs x → R x y
pairs_last R [] y x pairs among = absurd (let within = among.1 in omega arith)
pairs_last R (z ∷ xs) y x pairs among = ⊎_elim
    (λ is. subst (λ w. R w y) is (all_at (R z) (xs ++ y ∷ []) y (pairs_head R z (xs ++ y ∷ []) pairs) (Contains-push xs y)))
    (λ later. pairs_last R xs y x (pairs_tail R z (xs ++ y ∷ []) pairs) later)
    (in_cons z xs x among)

pairs_front : {X : Type 0} (R : X → X → Type 0) (xs : List X) (y : X) → AllPairs R (xs ++ y ∷ []) → AllPairs R xs
pairs_front R [] y pairs = λ i j d less within. absurd (omega arith)
pairs_front R (z ∷ xs) y pairs = pairs_cons R z xs
    (all_from (R z) xs (λ x among. all_at (R z) (xs ++ y ∷ []) x (pairs_head R z (xs ++ y ∷ []) pairs) (Contains-append_left xs (y ∷ []) x among)))
    (pairs_front R xs y (pairs_tail R z (xs ++ y ∷ []) pairs))

-- a list with its last element apart
pub split_last : {X : Type 0} (xs : List X) (n : ℕ) (x : X) → n + 1 ≡ length xs → slice_get xs n ≡ Some x
    → (front : List X) × (xs ≡ front ++ x ∷ []) × ((y : X) → set xs n y ≡ front ++ y ∷ [])
split_last [] n x long at = absurd (cc at)
split_last (z ∷ []) zero x long at = ([], ap (λ w. w ∷ []) (same_Some z x at), λ y. refl)
split_last (z ∷ w ∷ rest) zero x long at = absurd (omega arith)
split_last (z ∷ []) (suc n) x long at = absurd (cc at)
split_last (z ∷ w ∷ rest) (suc n) x long at =
    let cut = split_last (w ∷ rest) n x (omega arith) at in
    (z ∷ cut.0, ap (λ l. z ∷ l) cut.1, λ y. ap (λ l. z ∷ l) (cut.2 y))

-- an element is the last, or in front of another
last_or_before : {X : Type 0} (R : X → X → Type 0) (xs : List X) (x : X) → AllPairs R xs → Contains xs x → (slice_get xs (length xs - 1) ≡ Some x) ⊎ ((y : X) × Contains xs y × R x y)
last_or_before R xs x pairs among = ⊎_elim
    (λ (before : among.0 + 1 < length xs).
    let pair = pairs among.0 (among.0 + 1) x (omega arith) before in
    inr (get_or xs (among.0 + 1) x, Contains-get_or xs (among.0 + 1) x before, subst (λ w. R w (get_or xs (among.0 + 1) x)) among.2 pair))
    (λ (end : length xs ≤ among.0 + 1).
    let within : among.0 < length xs = among.1 in
    let last : among.0 ≡ length xs - 1 = omega arith in
    inl (subst (λ n. slice_get xs n ≡ Some x) last (slice_get_read xs (length xs) among.0 x refl within (sym among.2))))
    (cases_lt (among.0 + 1) (length xs))

-- ---- one version more

abbrev pub recorded_of : List Version → List Removal → Recorded
recorded_of versions removals = record { versions = versions; removals = removals }

-- the versions so far have lower revisions
abbrev pub AreBelow : List Version → Version → Type 0
AreBelow done v = (w : Version) → Contains done w → w.revision < v.revision

pub HasVersionAt-more : (done : List Version) (v : Version) (key : ObjectKey) (revision : ℕ) → HasVersionAt done key revision → HasVersionAt (done ++ v ∷ []) key revision
HasVersionAt-more done v key revision any =
    Any-contains (λ (w : Version). (w.key ≡ key) × (w.revision ≡ revision)) (done ++ v ∷ []) any.1 (Contains-append_left done (v ∷ []) any.1 (any.0, any.2, any.3)) any.4

HasVersionAt-below : (done : List Version) (v : Version) (key : ObjectKey) (revision : ℕ) → AreBelow done v → HasVersionAt done key revision → revision < v.revision
HasVersionAt-below done v key revision below any =
    let less : any.1.revision < v.revision = below any.1 (any.0, any.2, any.3) in
    let is : any.1.revision ≡ revision = any.4.1 in
    omega arith

IsNext-fewer : (done : List Version) (v : Version) (key : ObjectKey) (revision : ℕ) (next : Version) → IsNext (done ++ v ∷ []) key revision next → IsNext done key revision next
IsNext-fewer done v key revision next is = record {
  of_key = is.of_key;
  behind = is.behind;
  first = all_from (λ w. w.key ≡ key → revision < w.revision → next.revision ≤ w.revision) done
      (λ w among. all_at (λ w. w.key ≡ key → revision < w.revision → next.revision ≤ w.revision) (done ++ v ∷ []) w is.first (Contains-append_left done (v ∷ []) w among));
}

IsIncarnation-more : (done : List Version) (v : Version) (removals : List Removal) (key : ObjectKey) (i : Incarnation) → AreBelow done v → IsIncarnation (recorded_of done removals) key i
    → (IsNext (done ++ v ∷ []) key i.last v → v.uid ≢ i.uid) → IsIncarnation (recorded_of (done ++ v ∷ []) removals) key i
IsIncarnation-more done v removals key i below is cut = record {
  first = HasVersionAt-more done v key i.first is.first;
  last = HasVersionAt-more done v key i.last is.last;
  order = is.order;
  one_uid = All-push (λ w. w.key ≡ key → i.first ≤ w.revision → w.revision ≤ i.last → w.uid ≡ i.uid) done v is.one_uid
      (λ of_key from upto. let less = HasVersionAt-below done v key i.last below is.last in absurd (omega arith));
  cut = All-push (λ next. IsNext (done ++ v ∷ []) key i.last next → next.uid ≢ i.uid) done v
      (All-weaker (λ next. IsNext done key i.last next → next.uid ≢ i.uid) (λ next. IsNext (done ++ v ∷ []) key i.last next → next.uid ≢ i.uid)
      (λ next holds later. holds (IsNext-fewer done v key i.last next later)) done is.cut)
      cut;
  range = is.range;
}

-- an incarnation in front of another goes on as it was
IsIncarnation-before : (done : List Version) (v : Version) (removals : List Removal) (key : ObjectKey) (i : Incarnation) (later : ℕ) → AreBelow done v → IsIncarnation (recorded_of done removals) key i
    → HasVersionAt done key later → i.last < later → IsIncarnation (recorded_of (done ++ v ∷ []) removals) key i
IsIncarnation-before done v removals key i later below is there less = IsIncarnation-more done v removals key i below is
    (λ next.
    let w : Version = there.1 in
    let at : w.revision ≡ later = there.4.1 in
    let upto : v.revision ≤ w.revision =
    all_at (λ x. x.key ≡ key → i.last < x.revision → v.revision ≤ x.revision) (done ++ v ∷ []) w next.first (Contains-append_left done (v ∷ []) w (there.0, there.2, there.3)) there.4.0 (omega arith) in
    let under = below w (there.0, there.2, there.3) in
    absurd (omega arith))

pub AreIncarnations-none : (removals : List Removal) (key : ObjectKey) → AreIncarnations (recorded_of [] removals) key []
AreIncarnations-none removals key = record {
  rising = λ i j d less within. absurd (omega arith);
  each = λ k d within. absurd (omega arith);
  whole = λ k d within. absurd (omega arith);
}

-- a version of another key
pub AreIncarnations-other : (done : List Version) (v : Version) (removals : List Removal) (key : ObjectKey) (incarnations : List Incarnation) → AreBelow done v → key ≢ v.key
    → AreIncarnations (recorded_of done removals) key incarnations → AreIncarnations (recorded_of (done ++ v ∷ []) removals) key incarnations
AreIncarnations-other done v removals key incarnations below differs are = record {
  rising = are.rising;
  each = All-weaker (IsIncarnation (recorded_of done removals) key) (IsIncarnation (recorded_of (done ++ v ∷ []) removals) key)
      (λ i is. IsIncarnation-more done v removals key i below is (λ next. absurd (differs (sym next.of_key)))) incarnations are.each;
  whole = All-push (λ w. w.key ≡ key → Any (λ i. (i.first ≤ w.revision) × (w.revision ≤ i.last)) incarnations) done v are.whole (λ of_key. absurd (differs (sym of_key)));
}

begun_is : (done : List Version) (v : Version) (removals : List Removal) (range : Option ℕ) → AreBelow done v → IsRemovalOf removals v.revision range
    → IsIncarnation (recorded_of (done ++ v ∷ []) removals) v.key (begun v range)
begun_is done v removals range below ends = record {
  first = Any-contains (λ (w : Version). (w.key ≡ v.key) × (w.revision ≡ v.revision)) (done ++ v ∷ []) v (Contains-push done v) (refl, refl);
  last = Any-contains (λ (w : Version). (w.key ≡ v.key) × (w.revision ≡ v.revision)) (done ++ v ∷ []) v (Contains-push done v) (refl, refl);
  order = omega arith;
  one_uid = All-push (λ w. w.key ≡ v.key → v.revision ≤ w.revision → w.revision ≤ v.revision → w.uid ≡ v.uid) done v
      (all_from (λ w. w.key ≡ v.key → v.revision ≤ w.revision → w.revision ≤ v.revision → w.uid ≡ v.uid) done (λ w among of_key from upto. let less = below w among in absurd (omega arith)))
      (λ of_key from upto. refl);
  cut = none_behind done v below (begun v range) refl;
  range = ends;
}
  where
    none_behind : (done : List Version) (v : Version) → AreBelow done v → (i : Incarnation) → i.last ≡ v.revision → All (λ next. IsNext (done ++ v ∷ []) v.key i.last next → next.uid ≢ i.uid) (done ++ v ∷ [])
    none_behind done v below i last = all_from (λ next. IsNext (done ++ v ∷ []) v.key i.last next → next.uid ≢ i.uid) (done ++ v ∷ [])
        (λ next among is. ⊎_elim
        (λ before. let less = below next before in let behind = is.behind in absurd (omega arith))
        (λ same. let at = ap (λ (x : Version). x.revision) same in let behind = is.behind in absurd (omega arith))
        (Contains-push_cases done v next among))

continued_is : (done : List Version) (v : Version) (removals : List Removal) (front : List Incarnation) (i : Incarnation) (range : Option ℕ) → AreBelow done v → i.uid ≡ v.uid → IsRemovalOf removals v.revision range
    → AreIncarnations (recorded_of done removals) v.key (front ++ i ∷ []) → IsIncarnation (recorded_of (done ++ v ∷ []) removals) v.key (continued i v range)
continued_is done v removals front i range below same ends are = record {
  first = HasVersionAt-more done v v.key i.first is.first;
  last = Any-contains (λ (w : Version). (w.key ≡ v.key) × (w.revision ≡ v.revision)) (done ++ v ∷ []) v (Contains-push done v) (refl, refl);
  order = (let less = HasVersionAt-below done v v.key i.first below is.first in omega arith);
  one_uid = All-push (λ w. w.key ≡ v.key → i.first ≤ w.revision → w.revision ≤ v.revision → w.uid ≡ i.uid) done v
      (all_from (λ w. w.key ≡ v.key → i.first ≤ w.revision → w.revision ≤ v.revision → w.uid ≡ i.uid) done
      (λ w among of_key from upto.
      let held = all_at (λ x. x.key ≡ v.key → Any (λ j. (j.first ≤ x.revision) × (x.revision ≤ j.last)) (front ++ i ∷ [])) done w are.whole among of_key in
      ⊎_elim
      (λ before. let less : held.1.last < i.first = pairs_last (λ a b. a.last < b.first) front i held.1 are.rising before in let high : w.revision ≤ held.1.last = held.4.1 in absurd (omega arith))
      (λ last.
      let high : w.revision ≤ held.1.last = held.4.1 in
      let at : i.last ≡ held.1.last = ap (λ (j : Incarnation). j.last) last in
      all_at (λ x. x.key ≡ v.key → i.first ≤ x.revision → x.revision ≤ i.last → x.uid ≡ i.uid) done w is.one_uid among of_key from (omega arith))
      (Contains-push_cases front i held.1 (held.0, held.2, held.3))))
      (λ of_key from upto. sym same);
  cut = all_from (λ next. IsNext (done ++ v ∷ []) v.key v.revision next → next.uid ≢ i.uid) (done ++ v ∷ [])
      (λ next among following. ⊎_elim
      (λ before. let less = below next before in let behind = following.behind in absurd (omega arith))
      (λ here. let at = ap (λ (x : Version). x.revision) here in let behind = following.behind in absurd (omega arith))
      (Contains-push_cases done v next among));
  range = ends;
}
  where
    is : IsIncarnation (recorded_of done removals) v.key i
    is = all_at (IsIncarnation (recorded_of done removals) v.key) (front ++ i ∷ []) i are.each (Contains-push front i)

-- the last incarnation goes on
AreIncarnations-continued : (done : List Version) (v : Version) (removals : List Removal) (front : List Incarnation) (i : Incarnation) (range : Option ℕ) → AreBelow done v → i.uid ≡ v.uid
    → IsRemovalOf removals v.revision range → AreIncarnations (recorded_of done removals) v.key (front ++ i ∷ [])
    → AreIncarnations (recorded_of (done ++ v ∷ []) removals) v.key (front ++ continued i v range ∷ [])
AreIncarnations-continued done v removals front i range below same ends are = record {
  rising = pairs_push (λ a b. a.last < b.first) front (continued i v range) (pairs_front (λ a b. a.last < b.first) front i are.rising)
      (λ a among. pairs_last (λ a b. a.last < b.first) front i a are.rising among);
  each = All-push (IsIncarnation (recorded_of (done ++ v ∷ []) removals) v.key) front (continued i v range)
      (all_from (IsIncarnation (recorded_of (done ++ v ∷ []) removals) v.key) front
      (λ a among. IsIncarnation-before done v removals v.key a i.first below (all_at (IsIncarnation (recorded_of done removals) v.key) (front ++ i ∷ []) a are.each (Contains-append_left front (i ∷ []) a among))
      is.first (pairs_last (λ a b. a.last < b.first) front i a are.rising among)))
      (continued_is done v removals front i range below same ends are);
  whole = All-push (λ w. w.key ≡ v.key → Any (λ j. (j.first ≤ w.revision) × (w.revision ≤ j.last)) (front ++ continued i v range ∷ [])) done v
      (all_from (λ w. w.key ≡ v.key → Any (λ j. (j.first ≤ w.revision) × (w.revision ≤ j.last)) (front ++ continued i v range ∷ [])) done
      (λ w among of_key.
      let held = all_at (λ x. x.key ≡ v.key → Any (λ j. (j.first ≤ x.revision) × (x.revision ≤ j.last)) (front ++ i ∷ [])) done w are.whole among of_key in
      ⊎_elim
      (λ before. Any-contains (λ j. (j.first ≤ w.revision) × (w.revision ≤ j.last)) (front ++ continued i v range ∷ []) held.1 (Contains-append_left front (continued i v range ∷ []) held.1 before) held.4)
      (λ last.
      let at : i.first ≡ held.1.first = ap (λ (j : Incarnation). j.first) last in
      let from : held.1.first ≤ w.revision = held.4.0 in
      let under = below w among in
      Any-contains (λ j. (j.first ≤ w.revision) × (w.revision ≤ j.last)) (front ++ continued i v range ∷ []) (continued i v range) (Contains-push front (continued i v range)) (omega arith, omega arith))
      (Contains-push_cases front i held.1 (held.0, held.2, held.3))))
      (λ of_key.
      let under = HasVersionAt-below done v v.key i.first below is.first in
      Any-contains (λ j. (j.first ≤ v.revision) × (v.revision ≤ j.last)) (front ++ continued i v range ∷ []) (continued i v range) (Contains-push front (continued i v range)) (omega arith, omega arith));
}
  where
    is : IsIncarnation (recorded_of done removals) v.key i
    is = all_at (IsIncarnation (recorded_of done removals) v.key) (front ++ i ∷ []) i are.each (Contains-push front i)

-- another one begins
AreIncarnations-begun : (done : List Version) (v : Version) (removals : List Removal) (incarnations : List Incarnation) (range : Option ℕ) → AreBelow done v
    → ((i : Incarnation) → last_of incarnations ≡ Some i → i.uid ≢ v.uid) → IsRemovalOf removals v.revision range → AreIncarnations (recorded_of done removals) v.key incarnations
    → AreIncarnations (recorded_of (done ++ v ∷ []) removals) v.key (incarnations ++ begun v range ∷ [])
AreIncarnations-begun done v removals incarnations range below other ends are = record {
  rising = pairs_push (λ a b. a.last < b.first) incarnations (begun v range) are.rising
      (λ a among. HasVersionAt-below done v v.key a.last below (all_at (IsIncarnation (recorded_of done removals) v.key) incarnations a are.each among).last);
  each = All-push (IsIncarnation (recorded_of (done ++ v ∷ []) removals) v.key) incarnations (begun v range)
      (all_from (IsIncarnation (recorded_of (done ++ v ∷ []) removals) v.key) incarnations
      (λ a among.
      let is = all_at (IsIncarnation (recorded_of done removals) v.key) incarnations a are.each among in
      ⊎_elim
      (λ last. IsIncarnation-more done v removals v.key a below is (λ next same. other a last (sym same)))
      (λ before. IsIncarnation-before done v removals v.key a before.0.first below is (all_at (IsIncarnation (recorded_of done removals) v.key) incarnations before.0 are.each before.1).first before.2)
      (last_or_before (λ a b. a.last < b.first) incarnations a are.rising among)))
      (begun_is done v removals range below ends);
  whole = All-push (λ w. w.key ≡ v.key → Any (λ j. (j.first ≤ w.revision) × (w.revision ≤ j.last)) (incarnations ++ begun v range ∷ [])) done v
      (all_from (λ w. w.key ≡ v.key → Any (λ j. (j.first ≤ w.revision) × (w.revision ≤ j.last)) (incarnations ++ begun v range ∷ [])) done
      (λ w among of_key.
      let held = all_at (λ x. x.key ≡ v.key → Any (λ j. (j.first ≤ x.revision) × (x.revision ≤ j.last)) incarnations) done w are.whole among of_key in
      Any-contains (λ j. (j.first ≤ w.revision) × (w.revision ≤ j.last)) (incarnations ++ begun v range ∷ []) held.1
      (Contains-append_left incarnations (begun v range ∷ []) held.1 (held.0, held.2, held.3)) held.4))
      (λ of_key. Any-contains (λ j. (j.first ≤ v.revision) × (v.revision ≤ j.last)) (incarnations ++ begun v range ∷ []) (begun v range) (Contains-push incarnations (begun v range)) (omega arith, omega arith));
}

-- a version of the key
pub AreIncarnations-same : (done : List Version) (v : Version) (removals : List Removal) (old new : List Incarnation) (range : Option ℕ) → AreBelow done v → IsRemovalOf removals v.revision range
    → IsExtended old new v range → AreIncarnations (recorded_of done removals) v.key old → AreIncarnations (recorded_of (done ++ v ∷ []) removals) v.key new
AreIncarnations-same done v removals old new range below ends (continues i last same is) are = go (split_last old (length old - 1) i (long old last) last)
  where
    long : (xs : List Incarnation) → last_of xs ≡ Some i → length xs - 1 + 1 ≡ length xs
    long [] at = absurd (cc at)
    long (x ∷ xs) at = omega arith

    go : (front : List Incarnation) × (old ≡ front ++ i ∷ []) × ((y : Incarnation) → set old (length old - 1) y ≡ front ++ y ∷ []) → AreIncarnations (recorded_of (done ++ v ∷ []) removals) v.key new
    go cut = subst (AreIncarnations (recorded_of (done ++ v ∷ []) removals) v.key) (sym (is ∙ cut.2 (continued i v range)))
        (AreIncarnations-continued done v removals cut.0 i range below same ends (subst (AreIncarnations (recorded_of done removals) v.key) cut.1 are))
AreIncarnations-same done v removals old new range below ends (begins other is) are =
    subst (AreIncarnations (recorded_of (done ++ v ∷ []) removals) v.key) (sym is) (AreIncarnations-begun done v removals old range below other ends are)
