-- What was filed is found again.
use Rattle.std.proofs.Common.{◌≡◌, ℕ, ◌+◌, ◌<◌, ◌⊎◌, ⊎_elim, inl, inr, Bool, false, Option, Some, None, List, [], ◌∷◌, ◌++◌, length, get_or, map, take, refl, sym, ◌∙◌, subst, ap, arith}
use Rattle.std.specs.BTreeMap.{BTreeMap, IsEmpty, is_at}
use Rattle.std.specs.Bool.{Decides}
use Rattle.std.specs.List.{Any, Contains}
use Rattle.std.specs.List.Sorted.{IsPermutation}
use Rattle.std.specs.Map.{lookup}
use Rattle.std.specs.Option.{IfNone, IfSome, MatchOption}
use Rattle.std.specs.declared.cmp.Ordering.{Ordering}
use Rattle.std.proofs.lemmas.Bool.{both_ways}
use Rattle.std.proofs.lemmas.List.{map-append, take_more}
use Rattle.std.proofs.lemmas.List.Elements.{Contains-append_left, Contains-push, Contains-push_cases}
use Rattle.std.proofs.lemmas.List.Sorted.{Contains-permutation, IsPermutation-sym}
use Rattle.base_types.proofs.Quantifiers.{Any-contains, Any-map, Any-weaker}
use Rattle.base_types.specs.Covers.{Covers, NamesExactly, TakesName}
use Rattle.base_types.specs.declared.kubernetes.key.Cover.{Cover}
use Rattle.base_types.specs.declared.kubernetes.key.ObjectKey.{ObjectKey}
use Rattle.base_types.proofs.KeyLemmas.{key_from_parts}
use Rattle.clouds.specs.declared.span.KeyRevision.{KeyRevision}
use Rattle.clouds.specs.declared.span.OpaqueSpan.{OpaqueSpan}
use Rattle.clouds.specs.declared.wide.Wide.{Wide}
use Rattle.clouds.specs.Clouds.{IsHiddenBy}
use Rattle.clouds.specs.FirstPlace.{HoldsNowhere, IsFirstPlace, IsLeastPlace, lesser_place}
use Rattle.clouds.specs.Hiding.{AreRevisionsOf, HidesKey, ReachesKey, revision_of}
use Rattle.clouds.specs.Items.{AddsAt, items_at, items_of}
use Rattle.clouds.specs.Filed.{AreFiled, AreRecorded, IsNoneFiled}
use Rattle.clouds.specs.Kept.{key_order}
use Rattle.clouds.specs.Latest.{IsLatest}
use Rattle.clouds.specs.Recorded.{Adds}
use Rattle.clouds.specs.Wide.{AddsWide, AnyWide, folder_order}
use Rattle.clouds.proofs.Adding.{same_key_from}
use Rattle.clouds.proofs.FirstPlaces.{Either, IsFirstPlace-either, IsFirstPlace-same}
use Rattle.clouds.proofs.Fronts.{AnyWide-folder, AnyWide-weaker}
use Rattle.clouds.proofs.Searching.{latest_from_unseen, unseen_from_latest}

-- the first elements, and one more
pub taken_more : {A B : Type 0} (f : A → B) (xs : List A) (i : ℕ) (x : A) → i < length xs → x ≡ get_or xs i x → map f (take (i + 1) xs) ≡ map f (take i xs) ++ f x ∷ []
taken_more f xs i x within is = ap (λ l. map f l) (take_more xs i x within) ∙ map-append f (take i xs) (get_or xs i x ∷ []) ∙ ap (λ y. map f (take i xs) ++ f y ∷ []) (sym is)

-- an element among those of the mapped list
pub among_mapped : {A B : Type 0} (f : A → B) (xs : List A) (i : ℕ) (x : A) → i < length xs → x ≡ get_or xs i x → Contains (map f xs) (f x)
among_mapped f xs i x within is =
    let any = Any-map f (λ y. y ≡ f x) xs (i, x, within, sym is, refl) in
    subst (λ y. Contains (map f xs) y) any.4 (any.0, any.2, any.3)

-- a cover that names a key covers no other
Covers-exact : (cover : Cover) (key other : ObjectKey) → NamesExactly cover key → Covers cover other → other ≡ key
Covers-exact cover key other names covers = key_from_parts other key
    (covers.group ∙ sym names.group)
    (covers.resource ∙ sym names.resource)
    (subst (λ n. MatchOption n (Unit {0}) (λ namespace. other.namespace ≡ namespace)) names.namespace covers.namespace)
    (subst (λ n. TakesName n other.name) names.name covers.name)

pub AreFiled-named : (named after : BTreeMap ObjectKey (List OpaqueSpan)) (wide : Wide) (spans : List OpaqueSpan) (key : ObjectKey) (span : OpaqueSpan)
    → NamesExactly span.cover key → AddsAt key_order named after key span → AreFiled named wide spans → AreFiled after wide (spans ++ span ∷ [])
AreFiled-named named after wide spans key span names adds filed = record {
  among_named = λ k s among. ⊎_elim
      (λ old. Contains-append_left spans (span ∷ []) s (filed.among_named k s old))
      (λ new. subst (λ x. Contains (spans ++ span ∷ []) x) (sym new.1) (Contains-push spans span))
      (adds.only k s among);
  among_wide = λ folder s among. Contains-append_left spans (span ∷ []) s (filed.among_wide folder s among);
  found = λ s k among covers. ⊎_elim
      (λ old. ⊎_elim (λ there. inl (adds.kept k s there)) (λ there. inr there) (filed.found s k old covers))
      (λ is.
      let one : k ≡ key = Covers-exact span.cover key k names (subst (λ (x : OpaqueSpan). Covers x.cover k) (sym is) covers) in
      inl (subst (λ x. Contains (items_at key_order after x) s) (sym one) (subst (λ x. Contains (items_at key_order after key) x) is adds.added)))
      (Contains-push_cases spans span s among);
}

pub AreFiled-wide : (named : BTreeMap ObjectKey (List OpaqueSpan)) (wide after : Wide) (spans : List OpaqueSpan) (span : OpaqueSpan)
    → AddsWide wide after span → AreFiled named wide spans → AreFiled named after (spans ++ span ∷ [])
AreFiled-wide named wide after spans span adds filed = record {
  among_named = λ k s among. Contains-append_left spans (span ∷ []) s (filed.among_named k s among);
  among_wide = λ folder s among. ⊎_elim
      (λ old. Contains-append_left spans (span ∷ []) s (filed.among_wide folder s old))
      (λ is. subst (λ x. Contains (spans ++ span ∷ []) x) (sym is) (Contains-push spans span))
      (adds.only folder s among);
  found = λ s k among covers. ⊎_elim
      (λ old. ⊎_elim (λ there. inl there) (λ there. inr (adds.kept k s there)) (filed.found s k old covers))
      (λ is. inr (subst (λ x. AnyWide after k (λ other. other ≡ x)) is (adds.added k (subst (λ (x : OpaqueSpan). Covers x.cover k) (sym is) covers))))
      (Contains-push_cases spans span s among);
}

pub AreFiled-permuted : (named : BTreeMap ObjectKey (List OpaqueSpan)) (wide : Wide) (spans order : List OpaqueSpan) → IsPermutation spans order
    → AreFiled named wide order → AreFiled named wide spans
AreFiled-permuted named wide spans order same filed = record {
  among_named = λ k s among. Contains-permutation order spans s (IsPermutation-sym spans order same) (filed.among_named k s among);
  among_wide = λ folder s among. Contains-permutation order spans s (IsPermutation-sym spans order same) (filed.among_wide folder s among);
  found = λ s k among covers. filed.found s k (Contains-permutation spans order s same among) covers;
}

same_revision : (r : KeyRevision) (key : ObjectKey) (revision : ℕ) → r.key ≡ key → revision ≡ r.revision → r ≡ revision_of key revision
same_revision r key revision of_key is =
    subst (λ k. r ≡ revision_of k revision) of_key (subst (λ n. r ≡ revision_of r.key n) (sym is) refl)

pub AreRecorded-more : (recorded after : ObjectKey → List ℕ) (given : List KeyRevision) (r : KeyRevision) → Adds key_order recorded after r.key r.revision
    → AreRecorded recorded given → AreRecorded after (given ++ r ∷ [])
AreRecorded-more recorded after given r adds all = record {
  among = λ k n among. ⊎_elim
      (λ old. Contains-append_left given (r ∷ []) (revision_of k n) (all.among k n old))
      (λ new. subst (λ x. Contains (given ++ r ∷ []) x) (same_revision r k n (same_key_from r.key k new.0) new.1) (Contains-push given r))
      (adds.only k n among);
  found = λ w among. ⊎_elim
      (λ old. adds.kept w.key w.revision (all.found w old))
      (λ is. subst (λ (x : KeyRevision). Contains (after x.key) x.revision) is adds.added)
      (Contains-push_cases given r w among);
}

pub AreRecorded-permuted : (recorded : ObjectKey → List ℕ) (given order : List KeyRevision) → IsPermutation given order → AreRecorded recorded order → AreRecorded recorded given
AreRecorded-permuted recorded given order same all = record {
  among = λ k n among. Contains-permutation order given (revision_of k n) (IsPermutation-sym given order same) (all.among k n among);
  found = λ r among. all.found r (Contains-permutation given order r same among);
}

pub AreRevisionsOf-at : (recorded : ObjectKey → List ℕ) (given : List KeyRevision) (key : ObjectKey) (revisions : List ℕ) → AreRecorded recorded given
    → recorded key ≡ revisions → AreRevisionsOf given key revisions
AreRevisionsOf-at recorded given key revisions all is = λ n. (
  (λ among. all.among key n (subst (λ l. Contains l n) (sym is) among)),
  (λ among. subst (λ l. Contains l n) is (all.found (revision_of key n) among)),
)

-- what holds of some span that covers the key is found under the key, or where a look-up of the key finds it
pub Any-filed : (named : BTreeMap ObjectKey (List OpaqueSpan)) (wide : Wide) (spans : List OpaqueSpan) (key : ObjectKey) (P : OpaqueSpan → Type 0)
    → AreFiled named wide spans → ((s : OpaqueSpan) → P s → Covers s.cover key) → Any P spans → Any P (items_at key_order named key) ⊎ AnyWide wide key P
Any-filed named wide spans key P filed covers any = ⊎_elim
    (λ there. inl (Any-contains P (items_at key_order named key) any.1 there any.4))
    (λ there. inr (AnyWide-weaker wide key (λ s. s ≡ any.1) P (λ s is. subst P (sym is) any.4) there))
    (filed.found any.1 key (any.0, any.2, any.3) (covers any.1 any.4))

pub Any-given : (named : BTreeMap ObjectKey (List OpaqueSpan)) (wide : Wide) (spans : List OpaqueSpan) (key : ObjectKey) (P : OpaqueSpan → Type 0)
    → AreFiled named wide spans → Any P (items_at key_order named key) ⊎ AnyWide wide key P → Any P spans
Any-given named wide spans key P filed either = ⊎_elim
    (λ any. Any-contains P spans any.1 (filed.among_named key any.1 (any.0, any.2, any.3)) any.4)
    (λ any. let held = AnyWide-folder wide key P any in Any-contains P spans held.0 (filed.among_wide held.1 held.0 held.2) held.3)
    either

-- an empty map of lists has no item
no_item : {K X : Type 0} (order : K → K → Ordering) (m : BTreeMap K (List X)) (key : K) (x : X) → IsEmpty m → Contains (items_at order m key) x → ⊥
no_item order m key x empty among =
    let none : items_at order m key ≡ [] = ap (λ entries. items_of (lookup (is_at (order key)) entries)) empty in
    let within = (subst (λ l. Contains l x) none among).1 in
    absurd (omega arith)

-- where none is filed no span covers a key
pub Any-none : (named : BTreeMap ObjectKey (List OpaqueSpan)) (wide : Wide) (spans : List OpaqueSpan) (key : ObjectKey) (P : OpaqueSpan → Type 0)
    → AreFiled named wide spans → IsNoneFiled named wide → ((s : OpaqueSpan) → P s → Covers s.cover key) → Any P spans → ⊥
Any-none named wide spans key P filed none covers any = ⊎_elim
    (λ there. no_item key_order named key there.1 none.0 (there.0, there.2, there.3))
    (λ there. let held = AnyWide-folder wide key P there in no_item folder_order wide.spans held.1 held.0 none.1 held.2)
    (Any-filed named wide spans key P filed covers any)

pub clouded_nowhere : (named : BTreeMap ObjectKey (List OpaqueSpan)) (wide : Wide) (spans : List OpaqueSpan) (given : List KeyRevision) (key : ObjectKey) (place : ℕ)
    → AreFiled named wide spans → IsNoneFiled named wide → Any (IsHiddenBy given key place) spans → ⊥
clouded_nowhere named wide spans given key place filed none clouded =
    Any-none named wide spans key (IsHiddenBy given key place) filed none (λ span hidden. hidden.hides) clouded

-- the one of two that is left where the other was found not to hold
pub other_of : {P Q : Type 0} (is : Bool) → Decides is P → is ≡ false → P ⊎ Q → Q
other_of is decides not either = ⊎_elim (λ p. absurd (both_ways is not (decides.1 p))) (λ q. q) either

-- the key's revisions as numbers, and among all revisions
IsHiddenBy-key : (given : List KeyRevision) (revisions : List ℕ) (key : ObjectKey) (place : ℕ) (span : OpaqueSpan) → AreRevisionsOf given key revisions → HidesKey revisions key place span
    → IsHiddenBy given key place span
IsHiddenBy-key given revisions key place span are hides = record {
  hides = hides.0;
  begun = hides.1;
  unseen = λ r among of_key behind.
      hides.2 r.revision ((are r.revision).1 (subst (λ x. Contains given x) (same_revision r key r.revision of_key refl) among)) behind;
}

HidesKey-hidden : (given : List KeyRevision) (revisions : List ℕ) (key : ObjectKey) (place : ℕ) (span : OpaqueSpan) → AreRevisionsOf given key revisions → IsHiddenBy given key place span
    → HidesKey revisions key place span
HidesKey-hidden given revisions key place span are hidden =
    (hidden.hides, hidden.begun, λ n among behind. hidden.unseen (revision_of key n) ((are n).0 among) refl behind)

pub clouded_from_reach : (spans : List OpaqueSpan) (given : List KeyRevision) (revisions : List ℕ) (key : ObjectKey) (place latest : ℕ) → AreRevisionsOf given key revisions → IsLatest revisions place latest
    → Any (ReachesKey key place latest) spans → Any (IsHiddenBy given key place) spans
clouded_from_reach spans given revisions key place latest are is any =
    Any-weaker (ReachesKey key place latest) (IsHiddenBy given key place) spans
    (λ span reaches. IsHiddenBy-key given revisions key place span are (reaches.0, reaches.1, unseen_from_latest revisions place latest span.high is reaches.2)) any

pub reach_from_clouded : (spans : List OpaqueSpan) (given : List KeyRevision) (revisions : List ℕ) (key : ObjectKey) (place latest : ℕ) → AreRevisionsOf given key revisions → IsLatest revisions place latest
    → Any (IsHiddenBy given key place) spans → Any (ReachesKey key place latest) spans
reach_from_clouded spans given revisions key place latest are is any =
    Any-weaker (IsHiddenBy given key place) (ReachesKey key place latest) spans
    (λ span hidden. let hides = HidesKey-hidden given revisions key place span are hidden in (hides.0, hides.1, latest_from_unseen revisions place latest span.high is hides.2)) any

pub hidden_from_clouded : (spans : List OpaqueSpan) (given : List KeyRevision) (revisions : List ℕ) (key : ObjectKey) (place : ℕ) → AreRevisionsOf given key revisions
    → Any (IsHiddenBy given key place) spans → Any (HidesKey revisions key place) spans
hidden_from_clouded spans given revisions key place are any =
    Any-weaker (IsHiddenBy given key place) (HidesKey revisions key place) spans (λ span hidden. HidesKey-hidden given revisions key place span are hidden) any

pub clouded_from_hidden : (spans : List OpaqueSpan) (given : List KeyRevision) (revisions : List ℕ) (key : ObjectKey) (place : ℕ) → AreRevisionsOf given key revisions
    → Any (HidesKey revisions key place) spans → Any (IsHiddenBy given key place) spans
clouded_from_hidden spans given revisions key place are any =
    Any-weaker (HidesKey revisions key place) (IsHiddenBy given key place) spans (λ span hides. IsHiddenBy-key given revisions key place span are hides) any

-- of all spans from those under the key and those where a look-up of the key finds them
pub IsFirstPlace-filed : (named : BTreeMap ObjectKey (List OpaqueSpan)) (wide : Wide) (spans : List OpaqueSpan) (key : ObjectKey) (revision low high : ℕ) (a b : Option ℕ)
    → AreFiled named wide spans → IsFirstPlace (λ n. Any (ReachesKey key n revision) (items_at key_order named key)) low high a
    → IsFirstPlace (λ n. AnyWide wide key (ReachesKey key n revision)) low high b
    → IsFirstPlace (λ n. Any (ReachesKey key n revision) spans) low high (lesser_place a b)
IsFirstPlace-filed named wide spans key revision low high a b filed first_named first_wide =
    let P : ℕ → Type 0 = λ n. Any (ReachesKey key n revision) (items_at key_order named key) in
    let Q : ℕ → Type 0 = λ n. AnyWide wide key (ReachesKey key n revision) in
    IsFirstPlace-same (Either P Q) (λ n. Any (ReachesKey key n revision) spans) low high (lesser_place a b)
    (λ n either. Any-given named wide spans key (ReachesKey key n revision) filed either)
    (λ n any. Any-filed named wide spans key (ReachesKey key n revision) filed (λ span reaches. reaches.0) any)
    (IsFirstPlace-either P Q low high a b first_named first_wide)

-- the two clauses of a first place
pub IfSome-first : (P : ℕ → Type 0) (low high : ℕ) (place : Option ℕ) → IsFirstPlace P low high place → IfSome place (IsLeastPlace P low high)
IfSome-first P low high None nowhere = tt
IfSome-first P low high (Some place) first = first

pub IfNone-first : (P : ℕ → Type 0) (low high : ℕ) (place : Option ℕ) → IsFirstPlace P low high place → IfNone place (HoldsNowhere P low high)
IfNone-first P low high None nowhere = nowhere
IfNone-first P low high (Some place) first = tt
