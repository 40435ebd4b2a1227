-- Versions that are put under their keys, one after another.
use Rattle.std.proofs.Common.{◌≡◌, ◌≢◌, ℕ, ◌-◌, ◌<◌, ⊎_elim, inl, inr, List, [], ◌∷◌, ◌++◌, length, get_or, take, Option, Some, None, slice_get, refl, sym, ◌∙◌, subst, ap, arith}
use Rattle.std.specs.BTreeMap.{BTreeMap, Updates, get}
use Rattle.std.specs.List.{Contains}
use Rattle.std.specs.Ordering.{is_eq}
use Rattle.std.specs.Prelude.{IsSome}
use Rattle.std.proofs.lemmas.Bool.{cases_Bool, cond-false, false≢true}
use Rattle.std.proofs.lemmas.List.{get_or-take, get_or_default, length-take}
use Rattle.std.proofs.lemmas.List.Elements.{Contains-append_left, Contains-get_or, Contains-push, Contains-push_cases}
use Rattle.std.proofs.lemmas.List.Sorted.{IsNonDecreasingBy-push, IsNonDecreasingBy-short}
use Rattle.base_types.proofs.Quantifiers.{Any-contains}
use Rattle.base_types.specs.declared.kubernetes.key.ObjectKey.{ObjectKey}
use Rattle.clouds.proofs.Adding.{same_key_from}
use Rattle.clouds.specs.Kept.{key_order}
use Rattle.history_model.proofs.KeyLemmas.{key_tells}
use Rattle.history_model.proofs.Members.{at_in, not_in_none}
use Rattle.node_number.proofs.Growing.{slice_get-front, slice_get-last}
use Rattle.object_past.specs.Indexed.{AreEntries, AreFound, AreGone, ChangesAt, FoundByKey, HasVersion, IsFoundBy, IsGrown, entry_of, found_at, found_in, position_of}
use Rattle.object_past.specs.Incarnated.{AreIncarnations}
use Rattle.object_past.specs.Past.{AreRising}
use Rattle.object_past.specs.declared.ending.Ending.{Ending}
use Rattle.object_past.specs.declared.entry.Entry.{Entry}
use Rattle.object_past.specs.declared.removal.Removal.{Removal}
use Rattle.object_past.specs.declared.version.Version.{Version}
use Rattle.object_past.proofs.Cut.{AreBelow, AreIncarnations-none, AreIncarnations-other, AreIncarnations-same, recorded_of}
use Rattle.object_past.proofs.Gone.{AreGone-none, AreGone-other, AreGone-same, IsEnded}

pub ChangesAt-updates : (old new : BTreeMap ObjectKey FoundByKey) (key : ObjectKey) (found : FoundByKey) (Changes : FoundByKey → FoundByKey → Type 0) → Updates key_order old new key (Some found)
    → Changes (found_at old key) found → ChangesAt old new key Changes
ChangesAt-updates old new key found Changes updates changes = record {
  here = subst (λ f. Changes (found_at old key) f) (sym (ap found_in updates.1)) changes;
  others = λ other differs. ap found_in (kept other (λ is. differs (sym is)));
  used = λ other some. ⊎_elim
      (λ tied. inl (sym (same_key_from key other tied)))
      (λ untied. inr (subst IsSome (updates.0 other ∙ cond-false (is_eq (key_order key other)) (Some found) (get key_order old other) untied) some))
      (cases_Bool (is_eq (key_order key other)));
}
  where
    kept : (other : ObjectKey) → key ≢ other → get key_order new other ≡ get key_order old other
    kept other differs = ⊎_elim
        (λ tied. absurd (differs (same_key_from key other tied)))
        (λ untied. updates.0 other ∙ cond-false (is_eq (key_order key other)) (Some found) (get key_order old other) untied)
        (cases_Bool (is_eq (key_order key other)))

pub AreEntries-none : (key : ObjectKey) → AreEntries [] key []
AreEntries-none key = record {
  rising = IsNonDecreasingBy-short (λ (e : Entry). e.revision) [] (omega arith);
  sound = λ entry among. absurd (not_in_none among);
  full = λ v among of_key. absurd (not_in_none among);
}

-- a version of the key, behind the others
AreEntries-same : (done : List Version) (v : Version) (entries : List Entry) → ((w : Version) → Contains done w → w.revision < v.revision) → AreEntries done v.key entries
    → AreEntries (done ++ v ∷ []) v.key (entries ++ entry_of (length done) v ∷ [])
AreEntries-same done v entries below are = record {
  rising = IsNonDecreasingBy-push (λ (e : Entry). e.revision) entries (entry_of (length done) v) are.rising
      (λ d some.
      let last = are.sound (get_or entries (length entries - 1) d) (Contains-get_or entries (length entries - 1) d (omega arith)) in
      let less : last.0.revision < v.revision = below last.0 (at_in done (get_or entries (length entries - 1) d).position last.0 last.1) in
      let is : last.0.revision ≡ (get_or entries (length entries - 1) d).revision = last.3 in
      omega arith);
  sound = λ entry among. ⊎_elim
      (λ before. let s = are.sound entry before in (s.0, slice_get-front done (v ∷ []) entry.position s.0 s.1, s.2, s.3))
      (λ is. subst (λ (e : Entry). (w : Version) × (slice_get (done ++ v ∷ []) e.position ≡ Some w) × (w.key ≡ v.key) × (w.revision ≡ e.revision)) is (v, slice_get-last done v, refl, refl))
      (Contains-push_cases entries (entry_of (length done) v) entry among);
  full = λ w among of_key. ⊎_elim
      (λ before.
      let a = are.full w before of_key in
      Any-contains (λ (e : Entry). e.revision ≡ w.revision) (entries ++ entry_of (length done) v ∷ []) a.1
      (Contains-append_left entries (entry_of (length done) v ∷ []) a.1 (a.0, a.2, a.3)) a.4)
      (λ is. Any-contains (λ (e : Entry). e.revision ≡ w.revision) (entries ++ entry_of (length done) v ∷ []) (entry_of (length done) v)
      (Contains-push entries (entry_of (length done) v)) (ap (λ (x : Version). x.revision) is))
      (Contains-push_cases done v w among);
}

-- a version of another key
AreEntries-other : (done : List Version) (v : Version) (key : ObjectKey) (entries : List Entry) → key ≢ v.key → AreEntries done key entries → AreEntries (done ++ v ∷ []) key entries
AreEntries-other done v key entries differs are = record {
  rising = are.rising;
  sound = λ entry among. let s = are.sound entry among in (s.0, slice_get-front done (v ∷ []) entry.position s.0 s.1, s.2, s.3);
  full = λ w among of_key. ⊎_elim
      (λ before. are.full w before of_key)
      (λ is. absurd (differs (sym of_key ∙ ap (λ (x : Version). x.key) (sym is))))
      (Contains-push_cases done v w among);
}

HasVersion-more : (done : List Version) (v : Version) (key : ObjectKey) → HasVersion done key → HasVersion (done ++ v ∷ []) key
HasVersion-more done v key any =
    Any-contains (λ (w : Version). w.key ≡ key) (done ++ v ∷ []) any.1 (Contains-append_left done (v ∷ []) any.1 (any.0, any.2, any.3)) any.4

-- nothing is found of no versions
pub AreFound-none : (removals : List Removal) (by_key : BTreeMap ObjectKey FoundByKey) → by_key.entries ≡ [] → AreFound [] removals by_key
AreFound-none removals by_key none = record {
  each = λ key. subst (IsFoundBy [] removals key) (sym (ap found_in (unfound key))) (record { entries = AreEntries-none key; incarnations = AreIncarnations-none removals key; gone = AreGone-none removals key });
  used = λ key some. absurd (nowhere (subst IsSome (unfound key) some));
}
  where
    unfound : (key : ObjectKey) → get key_order by_key key ≡ None
    unfound key = rw none refl

    nowhere : IsSome {T = FoundByKey} None → ⊥
    nowhere some = false≢true some

pub AreFound-more : (done : List Version) (v : Version) (removals : List Removal) (ending : Option Ending) (old new : BTreeMap ObjectKey FoundByKey)
    → AreBelow done v → IsEnded removals v ending → ChangesAt old new v.key (IsGrown (length done) v ending) → AreFound done removals old → AreFound (done ++ v ∷ []) removals new
AreFound-more done v removals ending old new below ended changes found = record {
  each = λ key. ⊎_elim
      (λ same. subst (λ k. IsFoundBy (done ++ v ∷ []) removals k (found_at new k)) (sym same.1) here)
      (λ other. record {
        entries = subst (λ (f : FoundByKey). AreEntries (done ++ v ∷ []) key f.entries) (sym (changes.others key other.1)) (AreEntries-other done v key (found_at old key).entries other.1 (found.each key).entries);
        incarnations = subst (λ (f : FoundByKey). AreIncarnations (recorded_of (done ++ v ∷ []) removals) key f.incarnations) (sym (changes.others key other.1))
            (AreIncarnations-other done v removals key (found_at old key).incarnations below other.1 (found.each key).incarnations);
        gone = subst (λ (f : FoundByKey). AreGone (done ++ v ∷ []) removals key f.gone) (sym (changes.others key other.1)) (AreGone-other done v removals key (found_at old key).gone other.1 (found.each key).gone);
      })
      (key_tells key v.key);
  used = λ key some. ⊎_elim
      (λ same. Any-contains (λ (w : Version). w.key ≡ key) (done ++ v ∷ []) v (Contains-push done v) (sym same))
      (λ before. HasVersion-more done v key (found.used key before))
      (changes.used key some);
}
  where
    here : IsFoundBy (done ++ v ∷ []) removals v.key (found_at new v.key)
    here = record {
      entries = subst (λ l. AreEntries (done ++ v ∷ []) v.key l) (sym changes.here.entries) (AreEntries-same done v (found_at old v.key).entries below (found.each v.key).entries);
      incarnations = AreIncarnations-same done v removals (found_at old v.key).incarnations (found_at new v.key).incarnations (position_of ending) below ended.range changes.here.incarnations (found.each v.key).incarnations;
      gone = subst (AreGone (done ++ v ∷ []) removals v.key) (sym changes.here.gone) (AreGone-same done v removals ending (found_at old v.key).gone below ended (found.each v.key).gone);
    }

-- the versions before one of a list that rises
pub taken_below : (versions : List Version) (i : ℕ) (v : Version) → AreRising versions → i < length versions → v ≡ get_or versions i v → (w : Version) → Contains (take i versions) w → w.revision < v.revision
taken_below versions i v rising within is w among =
    let front : among.0 < i = (let before = among.1 in omega (arith, length-take i versions)) in
    let less : (get_or versions among.0 w).revision < (get_or versions i w).revision = rising among.0 i w front within in
    let of_w : (get_or versions among.0 w).revision ≡ w.revision = ap (λ (x : Version). x.revision) (sym (get_or-take i versions among.0 w front) ∙ among.2) in
    let of_v : (get_or versions i w).revision ≡ v.revision = ap (λ (x : Version). x.revision) (get_or_default versions i w v within ∙ sym is) in
    omega arith
