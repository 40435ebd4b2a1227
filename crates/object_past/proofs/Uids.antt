-- The uids of the versions that are the latest somewhere in a range of places.
use Rattle.std.proofs.Common.{◌≡◌, ◌≢◌, ℕ, ◌+◌, ◌-◌, ◌<◌, ◌≤◌, ⊎_elim, List, length, get_or, map, Option, Some, None, refl, sym, ◌∙◌, subst, ap, arith}
use Rattle.std.specs.List.{Any, Contains}
use Rattle.std.specs.Prelude.{IsSomeAnd}
use Rattle.std.proofs.lemmas.Bool.{cases_lt, leb-false}
use Rattle.std.specs.List.Sorted.{IsNonDecreasingBy}
use Rattle.std.proofs.lemmas.List.{get_or_default}
use Rattle.std.proofs.lemmas.List.Elements.{Contains-get_or}
use Rattle.base_types.specs.declared.kubernetes.key.ObjectKey.{ObjectKey}
use Rattle.history_model.proofs.Latest.{latest_is}
use Rattle.history_model.proofs.Members.{all_at, all_from}
use Rattle.history_model.specs.Bounding.{SomewhereIn}
use Rattle.history_model.specs.Histories as history
use Rattle.history_model.specs.States.{IsLatest, latest}
use Rattle.object_past.specs.Incarnated.{AreIncarnations, IsNext}
use Rattle.object_past.specs.Modelled.{version_of}
use Rattle.object_past.specs.Past.{Recorded}
use Rattle.object_past.specs.declared.incarnation.Incarnation.{Incarnation}
use Rattle.object_past.specs.declared.version.Version.{Version}
use Rattle.object_past.proofs.Looking.{from_map, in_map}
use Rattle.base_types.proofs.Upto.{Upto, last_upto, none_upto}
use Rattle.object_past.proofs.Searching.{in_order}

abbrev latest_in : Recorded → ObjectKey → ℕ → Option history.Version
latest_in past key place = latest (map version_of past.versions) key place

abbrev pub HasOther : Recorded → ObjectKey → List ℕ → ℕ → Type 0
HasOther past key uid place = IsSomeAnd (latest_in past key place) (λ v. v.uid ≢ uid)

some_and : (found : Option history.Version) (P : history.Version → Type 0) → IsSomeAnd found P → (v : history.Version) × (found ≡ Some v) × P v
some_and None P holds = absurd holds
some_and (Some v) P holds = (v, refl, holds)

-- a version of the key lies in one incarnation
held : (past : Recorded) (key : ObjectKey) (incarnations : List Incarnation) → AreIncarnations past key incarnations → (w : history.Version) → Contains (map version_of past.versions) w → w.key ≡ key
    → (k : ℕ) × (k < length incarnations) × Incarnation
    × ((d : Incarnation) → ((get_or incarnations k d).first ≤ w.revision) × (w.revision ≤ (get_or incarnations k d).last) × (w.uid ≡ (get_or incarnations k d).uid))
held past key incarnations are w among of_key =
    let v = from_map version_of past.versions w among in
    let at : v.0.revision ≡ w.revision = ap (λ (x : history.Version). x.revision) v.2 in
    let key_of : v.0.key ≡ key = ap (λ (x : history.Version). x.key) v.2 ∙ of_key in
    let any = all_at (λ x. x.key ≡ key → Any (λ i. (i.first ≤ x.revision) × (x.revision ≤ i.last)) incarnations) past.versions v.0 are.whole v.1 key_of in (
      any.0,
      any.2,
      any.1,
      λ d.
          let is : get_or incarnations any.0 d ≡ any.1 = get_or_default incarnations any.0 d any.1 any.2 ∙ any.3 in
          let low : (get_or incarnations any.0 d).first ≡ any.1.first = ap (λ (i : Incarnation). i.first) is in
          let high : (get_or incarnations any.0 d).last ≡ any.1.last = ap (λ (i : Incarnation). i.last) is in
          let from : any.1.first ≤ v.0.revision = any.4.0 in
          let upto : v.0.revision ≤ any.1.last = any.4.1 in
          let one = (are.each any.0 d any.2).one_uid in (
            omega arith,
            omega arith,
            ap (λ (x : history.Version). x.uid) (sym v.2)
                ∙ all_at (λ x. x.key ≡ key → (get_or incarnations any.0 d).first ≤ x.revision → x.revision ≤ (get_or incarnations any.0 d).last → x.uid ≡ (get_or incarnations any.0 d).uid) past.versions v.0 one v.1 key_of
                (omega arith) (omega arith),
          ),
    )

-- the first version of an incarnation
first_version : (past : Recorded) (key : ObjectKey) (incarnations : List Incarnation) → AreIncarnations past key incarnations → (k : ℕ) (d : Incarnation) → k < length incarnations
    → (w : Version) × Contains past.versions w × (w.key ≡ key) × (w.revision ≡ (get_or incarnations k d).first)
first_version past key incarnations are k d within = let any = (are.each k d within).first in (any.1, (any.0, any.2, any.3), any.4.0, any.4.1)

-- where an incarnation has begun and no later one has, its uid is that of the latest version
at_place : (past : Recorded) (key : ObjectKey) (incarnations : List Incarnation) → AreIncarnations past key incarnations → (place b : ℕ) (d : Incarnation) → b < length incarnations
    → (get_or incarnations b d).first ≤ place → ((j : ℕ) → b < j → j < length incarnations → place < (get_or incarnations j d).first)
    → (v : history.Version) × (latest_in past key place ≡ Some v) × (v.uid ≡ (get_or incarnations b d).uid)
at_place past key incarnations are place b d within begun later = go (latest_in past key place) refl (latest_is (map version_of past.versions) key place)
  where
    w : (w : Version) × Contains past.versions w × (w.key ≡ key) × (w.revision ≡ (get_or incarnations b d).first)
    w = first_version past key incarnations are b d within

    go : (found : Option history.Version) → latest_in past key place ≡ found → IsLatest (map version_of past.versions) key place (latest_in past key place)
        → (v : history.Version) × (latest_in past key place ≡ Some v) × (v.uid ≡ (get_or incarnations b d).uid)
    go None is found =
        let none = subst (IsLatest (map version_of past.versions) key place) is found in
        let above : place < w.0.revision = none (version_of w.0) (in_map version_of past.versions w.0 w.1) w.2 in
        let at : w.0.revision ≡ (get_or incarnations b d).first = w.3 in
        absurd (omega arith)
    go (Some v) is found =
        let some = subst (IsLatest (map version_of past.versions) key place) is found in
        let at : w.0.revision ≡ (get_or incarnations b d).first = w.3 in
        let below : v.revision ≤ place = some.2 in
        let up : w.0.revision ≤ v.revision = some.3 (version_of w.0) (in_map version_of past.versions w.0 w.1) w.2 (omega arith) in
        let c = held past key incarnations are v some.0 some.1 in
        let lies = c.3 d in
        let from : (get_or incarnations c.0 d).first ≤ v.revision = lies.0 in
        let upto : v.revision ≤ (get_or incarnations c.0 d).last = lies.1 in
        ⊎_elim
        (λ (less : c.0 < b). let order : (get_or incarnations c.0 d).last < (get_or incarnations b d).first = are.rising c.0 b d less within in absurd (omega arith))
        (λ (le : b ≤ c.0). ⊎_elim
        (λ (more : b < c.0). let above : place < (get_or incarnations c.0 d).first = later c.0 more c.1 in absurd (omega arith))
        (λ (same : c.0 ≤ b). let one : c.0 ≡ b = omega arith in (v, is, subst (λ n. v.uid ≡ (get_or incarnations n d).uid) one lies.2))
        (cases_lt b c.0))
        (cases_lt c.0 b)

other_at : (past : Recorded) (key : ObjectKey) (uid : List ℕ) (place : ℕ) (v : history.Version) → latest_in past key place ≡ Some v → v.uid ≢ uid → HasOther past key uid place
other_at past key uid place v is differs = subst (λ found. IsSomeAnd found (λ w. w.uid ≢ uid)) (sym is) differs

-- no incarnation has begun
pub no_other : (past : Recorded) (key : ObjectKey) (incarnations : List Incarnation) (low high n : ℕ) (uid : List ℕ) → AreIncarnations past key incarnations
    → Upto (λ (i : Incarnation). i.first) high incarnations n → n ≡ 0 → SomewhereIn low high (HasOther past key uid) → ⊥
no_other past key incarnations low high n uid are parts none (place, from, upto, other) =
    let v = some_and (latest_in past key place) (λ w. w.uid ≢ uid) other in
    let some = subst (IsLatest (map version_of past.versions) key place) v.1 (latest_is (map version_of past.versions) key place) in
    let c = held past key incarnations are v.0 some.0 some.1 in
    let above : high < (get_or incarnations c.0 c.2).first = none_upto (λ (i : Incarnation). i.first) incarnations high n parts none (get_or incarnations c.0 c.2) (Contains-get_or incarnations c.0 c.2 c.1) in
    let lies : (get_or incarnations c.0 c.2).first ≤ v.0.revision = (c.3 c.2).0 in
    let below : v.0.revision ≤ place = some.2 in
    omega arith

-- those behind the last one that has begun begin later
later_begin : (incarnations : List Incarnation) (high n : ℕ) (d : Incarnation) → Upto (λ (i : Incarnation). i.first) high incarnations n
    → (j : ℕ) → n - 1 < j → j < length incarnations → high < (get_or incarnations j d).first
later_begin incarnations high n d parts j behind within = leb-false (get_or incarnations j d).first high (parts.1 j d (omega arith) within)

-- the last one that has begun has another uid
pub other_last : (past : Recorded) (key : ObjectKey) (incarnations : List Incarnation) (low high n : ℕ) (uid : List ℕ) (d : Incarnation) → AreIncarnations past key incarnations
    → Upto (λ (i : Incarnation). i.first) high incarnations n → 0 < n → n ≤ length incarnations → low ≤ high → (get_or incarnations (n - 1) d).uid ≢ uid → SomewhereIn low high (HasOther past key uid)
other_last past key incarnations low high n uid d are parts some within order differs =
    let v = at_place past key incarnations are high (n - 1) d (omega arith) (last_upto (λ (i : Incarnation). i.first) incarnations high n d parts some within) (later_begin incarnations high n d parts) in
    (high, order, omega arith, other_at past key uid high v.0 v.1 (λ is. differs (sym v.2 ∙ is)))

-- the next one's first version is the first behind an incarnation
next_first : (past : Recorded) (key : ObjectKey) (incarnations : List Incarnation) → AreIncarnations past key incarnations → (k : ℕ) (d : Incarnation) → k + 1 < length incarnations
    → (get_or incarnations k d).uid ≢ (get_or incarnations (k + 1) d).uid
next_first past key incarnations are k d within same =
    let a : Incarnation = get_or incarnations k d in
    let b : Incarnation = get_or incarnations (k + 1) d in
    let w = first_version past key incarnations are (k + 1) d within in
    let at : w.0.revision ≡ b.first = w.3 in
    let apart : a.last < b.first = are.rising k (k + 1) d (omega arith) within in
    let is = are.each (k + 1) d within in
    let order : b.first ≤ b.last = is.order in
    let first : (y : Version) → Contains past.versions y → y.key ≡ key → a.last < y.revision → w.0.revision ≤ y.revision =
    λ y among of_key behind.
    let c = held past key incarnations are (version_of y) (in_map version_of past.versions y among) of_key in
    let lies = c.3 d in
    let from : (get_or incarnations c.0 d).first ≤ y.revision = lies.0 in
    let upto : y.revision ≤ (get_or incarnations c.0 d).last = lies.1 in
    ⊎_elim
    (λ (front : c.0 < k + 1). ⊎_elim
    (λ (less : c.0 < k).
    let gap : (get_or incarnations c.0 d).last < a.first = are.rising c.0 k d less (omega arith) in
    let up : a.first ≤ a.last = (are.each k d (omega arith)).order in
    absurd (omega arith))
    (λ (more : k ≤ c.0).
    let one : c.0 ≡ k = omega arith in
    let high : (get_or incarnations c.0 d).last ≡ a.last = ap (λ n. (get_or incarnations n d).last) one in
    absurd (omega arith))
    (cases_lt c.0 k))
    (λ (back : k + 1 ≤ c.0). ⊎_elim
    (λ (more : k + 1 < c.0). let gap : b.last < (get_or incarnations c.0 d).first = are.rising (k + 1) c.0 d more c.1 in omega arith)
    (λ (upto_it : c.0 ≤ k + 1).
    let one : c.0 ≡ k + 1 = omega arith in
    let low : (get_or incarnations c.0 d).first ≡ b.first = ap (λ n. (get_or incarnations n d).first) one in
    omega arith)
    (cases_lt (k + 1) c.0))
    (cases_lt c.0 (k + 1)) in
    let next : IsNext past.versions key a.last w.0 = record {
      of_key = w.2;
      behind = omega arith;
      first = all_from (λ y. y.key ≡ key → a.last < y.revision → w.0.revision ≤ y.revision) past.versions first;
    } in
    let uid : w.0.uid ≡ b.uid = all_at (λ x. x.key ≡ key → b.first ≤ x.revision → x.revision ≤ b.last → x.uid ≡ b.uid) past.versions w.0 is.one_uid w.1 w.2 (omega arith) (omega arith) in
    all_at (λ y. IsNext past.versions key a.last y → y.uid ≢ a.uid) past.versions w.0 (are.each k d (omega arith)).cut w.1 next (uid ∙ sym same)

-- an incarnation before the last one that has begun reaches into the range
pub other_before : (past : Recorded) (key : ObjectKey) (incarnations : List Incarnation) (low high n : ℕ) (uid : List ℕ) (d : Incarnation) → AreIncarnations past key incarnations
    → Upto (λ (i : Incarnation). i.first) high incarnations n → 1 < n → n ≤ length incarnations → (get_or incarnations (n - 1) d).uid ≡ uid → low < (get_or incarnations (n - 1) d).first
    → SomewhereIn low high (HasOther past key uid)
other_before past key incarnations low high n uid d are parts some within same reaches =
    let last : (get_or incarnations (n - 1) d).first ≤ high = last_upto (λ (i : Incarnation). i.first) incarnations high n d parts (omega arith) within in
    let next : n - 2 + 1 ≡ n - 1 = omega arith in
    let apart : (get_or incarnations (n - 2) d).last < (get_or incarnations (n - 1) d).first = are.rising (n - 2) (n - 1) d (omega arith) (omega arith) in
    let order : (get_or incarnations (n - 2) d).first ≤ (get_or incarnations (n - 2) d).last = (are.each (n - 2) d (omega arith)).order in
    let place : ℕ = (get_or incarnations (n - 1) d).first - 1 in
    let later : (j : ℕ) → n - 2 < j → j < length incarnations → place < (get_or incarnations j d).first =
    λ j behind inside. ⊎_elim
    (λ (more : n - 1 < j).
    let gap : (get_or incarnations (n - 1) d).last < (get_or incarnations j d).first = are.rising (n - 1) j d more inside in
    let up : (get_or incarnations (n - 1) d).first ≤ (get_or incarnations (n - 1) d).last = (are.each (n - 1) d (omega arith)).order in
    omega arith)
    (λ (upto : j ≤ n - 1).
    let one : j ≡ n - 1 = omega arith in
    let at : (get_or incarnations j d).first ≡ (get_or incarnations (n - 1) d).first = ap (λ m. (get_or incarnations m d).first) one in
    omega arith)
    (cases_lt (n - 1) j) in
    let v = at_place past key incarnations are place (n - 2) d (omega arith) (omega arith) later in
    let differs : (get_or incarnations (n - 2) d).uid ≢ (get_or incarnations (n - 1) d).uid =
    subst (λ m. (get_or incarnations (n - 2) d).uid ≢ (get_or incarnations m d).uid) next (next_first past key incarnations are (n - 2) d (omega arith)) in
    (place, omega arith, omega arith, other_at past key uid place v.0 v.1 (λ is. differs (sym v.2 ∙ is ∙ sym same)))

-- the last one that has begun is the only one in the range
pub other_nowhere : (past : Recorded) (key : ObjectKey) (incarnations : List Incarnation) (low high n : ℕ) (uid : List ℕ) (d : Incarnation) → AreIncarnations past key incarnations
    → Upto (λ (i : Incarnation). i.first) high incarnations n → 0 < n → n ≤ length incarnations → (get_or incarnations (n - 1) d).uid ≡ uid
    → (1 < n → (get_or incarnations (n - 1) d).first ≤ low) → SomewhereIn low high (HasOther past key uid) → ⊥
other_nowhere past key incarnations low high n uid d are parts some within same reaches (place, from, upto, other) =
    let v = some_and (latest_in past key place) (λ w. w.uid ≢ uid) other in
    let is = subst (IsLatest (map version_of past.versions) key place) v.1 (latest_is (map version_of past.versions) key place) in
    let c = held past key incarnations are v.0 is.0 is.1 in
    let lies = c.3 d in
    let low_end : (get_or incarnations c.0 d).first ≤ v.0.revision = lies.0 in
    let high_end : v.0.revision ≤ (get_or incarnations c.0 d).last = lies.1 in
    let below : v.0.revision ≤ place = is.2 in
    ⊎_elim
    (λ (later : n - 1 < c.0). let above : high < (get_or incarnations c.0 d).first = later_begin incarnations high n d parts c.0 later c.1 in absurd (omega arith))
    (λ (front : c.0 ≤ n - 1). ⊎_elim
    (λ (less : c.0 < n - 1).
    let gap : (get_or incarnations c.0 d).last < (get_or incarnations (n - 1) d).first = are.rising c.0 (n - 1) d less (omega arith) in
    let begun : (get_or incarnations (n - 1) d).first ≤ low = reaches (omega arith) in
    let w = first_version past key incarnations are (n - 1) d (omega arith) in
    let at : w.0.revision ≡ (get_or incarnations (n - 1) d).first = w.3 in
    let up : w.0.revision ≤ v.0.revision = is.3 (version_of w.0) (in_map version_of past.versions w.0 w.1) w.2 (omega arith) in
    absurd (omega arith))
    (λ (more : n - 1 ≤ c.0).
    let one : c.0 ≡ n - 1 = omega arith in
    v.2 (lies.2 ∙ ap (λ m. (get_or incarnations m d).uid) one ∙ same))
    (cases_lt c.0 (n - 1)))
    (cases_lt (n - 1) c.0)

pub first_order : (past : Recorded) (key : ObjectKey) (incarnations : List Incarnation) → AreIncarnations past key incarnations → IsNonDecreasingBy (λ i. i.first) incarnations
first_order past key incarnations are = in_order (λ (i : Incarnation). i.first) incarnations
    (λ j k d less within.
    let gap : (get_or incarnations j d).last < (get_or incarnations k d).first = are.rising j k d less within in
    let up : (get_or incarnations j d).first ≤ (get_or incarnations j d).last = (are.each j d (omega arith)).order in
    omega arith)
