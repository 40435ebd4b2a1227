-- The first clouded places behind a key's revisions, and what is found by them.
use Rattle.std.proofs.Common.{◌≡◌, ℕ, zero, suc, ◌+◌, ◌<◌, ◌≤◌, ◌⊎◌, ⊎_elim, inl, inr, Option, Some, None, List, [], ◌∷◌, ◌++◌, min, sym, subst, arith}
use Rattle.std.specs.BTreeMap.{BTreeMap}
use Rattle.std.specs.List.{Any, Contains}
use Rattle.std.specs.List.Sorted.{IsPermutation}
use Rattle.std.proofs.lemmas.Bool.{cases_lt}
use Rattle.std.proofs.lemmas.List.Elements.{Contains-push_cases}
use Rattle.std.proofs.lemmas.List.Sorted.{Contains-permutation, IsPermutation-sym}
use Rattle.base_types.proofs.Quantifiers.{Any-weaker}
use Rattle.base_types.specs.declared.kubernetes.key.ObjectKey.{ObjectKey}
use Rattle.clouds.specs.declared.recorded.Recorded.{Recorded}
use Rattle.clouds.specs.declared.span.KeyRevision.{KeyRevision}
use Rattle.clouds.specs.declared.span.OpaqueSpan.{OpaqueSpan}
use Rattle.clouds.specs.declared.wide.Wide.{Wide}
use Rattle.clouds.specs.Clouds.{IsClouded, IsHiddenBy}
use Rattle.clouds.specs.Filed.{AreFiled, AreRecorded, AreWritesKept, IsNoneFiled}
use Rattle.clouds.specs.FirstClouded.{AreFirstClouded, IsFirstUntilNext, SomeFirst}
use Rattle.clouds.specs.FirstPlace.{IsFirstPlace}
use Rattle.clouds.specs.Hiding.{AreRevisionsOf, HidesKey, ReachesKey, revision_of}
use Rattle.clouds.specs.Kept.{key_order}
use Rattle.clouds.specs.Latest.{IsLastBeforeNext, IsLatest, last_place}
use Rattle.clouds.specs.Recorded.{Adds, AddsFirst, AreSame, firsts_at, revisions_at}
use Rattle.clouds.specs.Writes.{Writes}
use Rattle.clouds.proofs.Adding.{same_key_from}
use Rattle.clouds.proofs.Keeping.{clouded_from_hidden, hidden_from_clouded}
use Rattle.clouds.proofs.Searching.{latest_from_unseen, unseen_from_latest}

-- up to the next revision the latest one stays the same
IsLatest-on : (revisions : List ℕ) (low last latest place : ℕ) → IsLatest revisions low latest → IsLastBeforeNext revisions low last → low ≤ place → place ≤ last
    → IsLatest revisions place latest
IsLatest-on revisions low last latest place is next from upto = record {
  among = is.among;
  bound = let bound = is.bound in omega arith;
  greatest = λ revision among within. ⊎_elim
      (λ (after : low < revision). let far : last < revision = next.before revision among after in absurd (omega arith))
      (λ (before : revision ≤ low). is.greatest revision among before)
      (cases_lt low revision);
}

hidden_from_reach : (spans : List OpaqueSpan) (revisions : List ℕ) (key : ObjectKey) (place latest : ℕ) → IsLatest revisions place latest → Any (ReachesKey key place latest) spans
    → Any (HidesKey revisions key place) spans
hidden_from_reach spans revisions key place latest is any =
    Any-weaker (ReachesKey key place latest) (HidesKey revisions key place) spans
    (λ span reaches. (reaches.0, reaches.1, unseen_from_latest revisions place latest span.high is reaches.2)) any

reach_from_hidden : (spans : List OpaqueSpan) (revisions : List ℕ) (key : ObjectKey) (place latest : ℕ) → IsLatest revisions place latest → Any (HidesKey revisions key place) spans
    → Any (ReachesKey key place latest) spans
reach_from_hidden spans revisions key place latest is any =
    Any-weaker (HidesKey revisions key place) (ReachesKey key place latest) spans
    (λ span hides. (hides.0, hides.1, latest_from_unseen revisions place latest span.high is hides.2)) any

pub IsFirstUntilNext-reached : (spans : List OpaqueSpan) (revisions : List ℕ) (key : ObjectKey) (low high last latest : ℕ) (place : Option ℕ) → IsLatest revisions low latest
    → IsLastBeforeNext revisions low last → high ≤ last_place → IsFirstPlace (λ n. Any (ReachesKey key n latest) spans) low (min last high) place
    → IsFirstUntilNext (λ n. Any (HidesKey revisions key n) spans) revisions low high place
IsFirstUntilNext-reached spans revisions key low high last latest None is next fits nowhere = λ place from upto hides. ⊎_elim
    (λ (after : last < place). next.next place after (omega arith))
    (λ (before : place ≤ last).
    absurd (nowhere place from (omega arith) (reach_from_hidden spans revisions key place latest (IsLatest-on revisions low last latest place is next from before) hides)))
    (cases_lt last place)
IsFirstUntilNext-reached spans revisions key low high last latest (Some place) is next fits first =
    let from : low ≤ place = first.from_low in
    let upto : place ≤ min last high = first.upto_high in
    let before : place ≤ last = omega arith in
    record {
      from_low = from;
      upto_high = omega arith;
      here = hidden_from_reach spans revisions key place latest (IsLatest-on revisions low last latest place is next from before) first.here;
      least = λ other within hides. ⊎_elim
          (λ (after : last < other). omega arith)
          (λ (near : other ≤ last).
          first.least other within (reach_from_hidden spans revisions key other latest (IsLatest-on revisions low last latest other is next within near) hides))
          (cases_lt last other);
    }

pub IsFirstUntilNext-same : (P Q : ℕ → Type 0) (revisions : List ℕ) (low high : ℕ) (place : Option ℕ) → ((n : ℕ) → P n → Q n) → ((n : ℕ) → Q n → P n)
    → IsFirstUntilNext P revisions low high place → IsFirstUntilNext Q revisions low high place
IsFirstUntilNext-same P Q revisions low high None forth back next = λ place from upto holds. next place from upto (back place holds)
IsFirstUntilNext-same P Q revisions low high (Some place) forth back first =
    record { from_low = first.from_low; upto_high = first.upto_high; here = forth place first.here; least = λ other from holds. first.least other from (back other holds) }

pub IsFirstUntilNext-clouded : (writes : Writes) (revisions : List ℕ) (key : ObjectKey) (low high : ℕ) (place : Option ℕ) → AreRevisionsOf writes.revisions key revisions
    → IsFirstUntilNext (λ n. Any (HidesKey revisions key n) writes.spans) revisions low high place → IsFirstUntilNext (IsClouded writes key) revisions low high place
IsFirstUntilNext-clouded writes revisions key low high place are first =
    IsFirstUntilNext-same (λ n. Any (HidesKey revisions key n) writes.spans) (IsClouded writes key) revisions low high place
    (λ n hides. clouded_from_hidden writes.spans writes.revisions revisions key n are hides) (λ n clouded. hidden_from_clouded writes.spans writes.revisions revisions key n are clouded) first

-- where none is clouded up to the next revision, the first clouded place is the first of those behind revisions
behind : (writes : Writes) (key : ObjectKey) (revisions firsts : List ℕ) (low high place : ℕ) → AreRevisionsOf writes.revisions key revisions → AreFirstClouded writes key firsts
    → high ≤ last_place → IsFirstUntilNext (IsClouded writes key) revisions low high None → low ≤ place → place ≤ high → IsClouded writes key place → SomeFirst firsts low place
behind writes key revisions firsts low high place are all fits next from upto clouded =
    let later = next place from upto clouded in
    let after : low < later.0 = later.2 in
    let first = all.found later.0 place ((are later.0).0 later.1) later.3 (omega arith) clouded in
    let from_later : later.0 ≤ first.0 = first.2 in
    (first.0, first.1, omega arith, first.3)

pub IsFirstPlace-behind : (writes : Writes) (key : ObjectKey) (revisions firsts : List ℕ) (low high : ℕ) (place : Option ℕ) → AreRevisionsOf writes.revisions key revisions
    → AreFirstClouded writes key firsts → high ≤ last_place → IsFirstUntilNext (IsClouded writes key) revisions low high None → IsFirstPlace (Contains firsts) low high place
    → IsFirstPlace (IsClouded writes key) low high place
IsFirstPlace-behind writes key revisions firsts low high None are all fits next nowhere = λ place from upto clouded.
    let first = behind writes key revisions firsts low high place are all fits next from upto clouded in
    let before : first.0 ≤ place = first.3 in
    nowhere first.0 first.2 (omega arith) first.1
IsFirstPlace-behind writes key revisions firsts low high (Some place) are all fits next least =
    let within : place ≤ high = least.upto_high in
    record {
      from_low = least.from_low;
      upto_high = within;
      here = all.among place least.here;
      least = λ other from clouded. ⊎_elim
          (λ (far : high < other). omega arith)
          (λ (upto : other ≤ high).
          let first = behind writes key revisions firsts low high other are all fits next from upto clouded in
          let before : first.0 ≤ other = first.3 in
          let up : place ≤ first.0 = least.least first.0 first.2 first.1 in
          omega arith)
          (cases_lt high other);
    }

-- one recorded write more
pub AddsFirst-none : (spans : List OpaqueSpan) (revisions : List ℕ) (old new : ObjectKey → List ℕ) (key : ObjectKey) (revision : ℕ) → AreSame old new
    → IsFirstUntilNext (λ n. Any (HidesKey revisions key n) spans) revisions revision last_place None → AddsFirst spans revisions old new key revision
AddsFirst-none spans revisions old new key revision same next = record {
  kept = λ k place among. subst (λ l. Contains l place) (sym (same k)) among;
  only = λ k place among. inl (subst (λ l. Contains l place) (same k) among);
  found = λ place from fits hides. inr (next place from fits hides);
}

pub AddsFirst-some : (spans : List OpaqueSpan) (revisions : List ℕ) (old new : ObjectKey → List ℕ) (key : ObjectKey) (revision first : ℕ) → Adds key_order old new key first
    → IsFirstUntilNext (λ n. Any (HidesKey revisions key n) spans) revisions revision last_place (Some first) → AddsFirst spans revisions old new key revision
AddsFirst-some spans revisions old new key revision first adds least = record {
  kept = adds.kept;
  only = λ k place among. ⊎_elim inl (λ both. inr (sym (same_key_from key k both.0), subst (λ n. Any (HidesKey revisions key n) spans) (sym both.1) least.here)) (adds.only k place among);
  found = λ place from fits hides. inl (first, adds.added, least.from_low, least.least place from hides);
}

-- what is known of the recorded writes that were seen so far
pub record FirstsSoFar (writes : Writes) (seen : List KeyRevision) (firsts : ObjectKey → List ℕ) : Type 0 where
  pub among : (key : ObjectKey) (place : ℕ) → Contains (firsts key) place → IsClouded writes key place
  pub found : (r : KeyRevision) (place : ℕ) → Contains seen r → r.revision ≤ place → place ≤ last_place → IsClouded writes r.key place
      → SomeFirst (firsts r.key) r.revision place ⊎ ((later : ℕ) × (Contains writes.revisions (revision_of r.key later)) × (r.revision < later) × (later ≤ place))

pub FirstsSoFar-start : (writes : Writes) (firsts : ObjectKey → List ℕ) → ((key : ObjectKey) → firsts key ≡ []) → FirstsSoFar writes [] firsts
FirstsSoFar-start writes firsts none = record {
  among = λ key place among. let within = (subst (λ l. Contains l place) (none key) among).1 in absurd (omega arith);
  found = λ r place among from fits clouded. let within = among.1 in absurd (omega arith);
}

pub FirstsSoFar-more : (writes : Writes) (seen : List KeyRevision) (revisions : List ℕ) (old new : ObjectKey → List ℕ) (r : KeyRevision) → AreRevisionsOf writes.revisions r.key revisions
    → AddsFirst writes.spans revisions old new r.key r.revision → FirstsSoFar writes seen old → FirstsSoFar writes (seen ++ r ∷ []) new
FirstsSoFar-more writes seen revisions old new r are adds far = record {
  among = λ key place among. ⊎_elim
      (λ before. far.among key place before)
      (λ both. subst (λ k. IsClouded writes k place) (sym both.0) (clouded_from_hidden writes.spans writes.revisions revisions r.key place are both.1))
      (adds.only key place among);
  found = λ w place among from fits clouded. ⊎_elim
      (λ before. ⊎_elim
      (λ first. inl (first.0, adds.kept w.key first.0 first.1, first.2, first.3))
      (λ later. inr later)
      (far.found w place before from fits clouded))
      (λ is. subst (λ (x : KeyRevision). x.revision ≤ place → IsClouded writes x.key place → Found x place) is (last place fits) from clouded)
      (Contains-push_cases seen r w among);
}
  where
    Found : KeyRevision → ℕ → Type 0
    Found w place = SomeFirst (new w.key) w.revision place ⊎ ((later : ℕ) × (Contains writes.revisions (revision_of w.key later)) × (w.revision < later) × (later ≤ place))

    last : (place : ℕ) → place ≤ last_place → r.revision ≤ place → IsClouded writes r.key place → Found r place
    last place fits from clouded = ⊎_elim inl
        (λ later. inr (later.0, (are later.0).0 later.1, later.2, later.3))
        (adds.found place from fits (hidden_from_clouded writes.spans writes.revisions revisions r.key place are clouded))

-- a later revision leads to the first place behind it
chain : (writes : Writes) (firsts : ObjectKey → List ℕ) (key : ObjectKey) (place : ℕ) → FirstsSoFar writes writes.revisions firsts → place ≤ last_place → IsClouded writes key place
    → (n revision : ℕ) → place < revision + n → Contains writes.revisions (revision_of key revision) → revision ≤ place → SomeFirst (firsts key) revision place
chain writes firsts key place far fits clouded zero revision near among from = absurd (omega arith)
chain writes firsts key place far fits clouded (suc n) revision near among from = ⊎_elim
    (λ first. first)
    (λ later.
    let after : revision < later.0 = later.2 in
    let first = chain writes firsts key place far fits clouded n later.0 (omega arith) later.1 later.3 in
    let up : later.0 ≤ first.0 = first.2 in
    (first.0, first.1, omega arith, first.3))
    (far.found (revision_of key revision) place among from fits clouded)

pub AreFirstClouded-all : (writes : Writes) (firsts : ObjectKey → List ℕ) (key : ObjectKey) → FirstsSoFar writes writes.revisions firsts → AreFirstClouded writes key (firsts key)
AreFirstClouded-all writes firsts key far = record {
  among = far.among key;
  found = λ revision place among from fits clouded. chain writes firsts key place far fits clouded (place + 1) revision (omega arith) among from;
}

-- the order in which revisions are given doesn't matter
clouded_permuted : (spans : List OpaqueSpan) (given order : List KeyRevision) (key : ObjectKey) (place : ℕ) → IsPermutation given order
    → IsClouded (record { spans = spans; revisions = order }) key place → IsClouded (record { spans = spans; revisions = given }) key place
clouded_permuted spans given order key place same clouded =
    Any-weaker (IsHiddenBy order key place) (IsHiddenBy given key place) spans
    (λ span hidden. record { hides = hidden.hides; begun = hidden.begun; unseen = λ r among. hidden.unseen r (Contains-permutation given order r same among) }) clouded

pub AreFirstClouded-permuted : (spans : List OpaqueSpan) (given order : List KeyRevision) (key : ObjectKey) (firsts : List ℕ) → IsPermutation given order
    → AreFirstClouded (record { spans = spans; revisions = order }) key firsts → AreFirstClouded (record { spans = spans; revisions = given }) key firsts
AreFirstClouded-permuted spans given order key firsts same all = record {
  among = λ place among. clouded_permuted spans given order key place same (all.among place among);
  found = λ revision place among from fits clouded.
      all.found revision place (Contains-permutation given order (revision_of key revision) same among) from fits
      (clouded_permuted spans order given key place (IsPermutation-sym given order same) clouded);
}

pub AreRecorded-same : (old new : ObjectKey → List ℕ) (given : List KeyRevision) → AreSame old new → AreRecorded old given → AreRecorded new given
AreRecorded-same old new given same all = record {
  among = λ key revision among. all.among key revision (subst (λ l. Contains l revision) (same key) among);
  found = λ r among. subst (λ l. Contains l r.revision) (sym (same r.key)) (all.found r among);
}

pub AreFirstClouded-is : (writes : Writes) (key : ObjectKey) (firsts same : List ℕ) → firsts ≡ same → AreFirstClouded writes key firsts → AreFirstClouded writes key same
AreFirstClouded-is writes key firsts same is all = subst (λ l. AreFirstClouded writes key l) is all

pub AreKept-made : (spans shown_spans : List OpaqueSpan) (given shown_given : List KeyRevision) (named : BTreeMap ObjectKey (List OpaqueSpan)) (wide : Wide) (recorded : BTreeMap ObjectKey Recorded)
    → shown_spans ≡ spans → shown_given ≡ given → AreFiled named wide spans → IsNoneFiled named wide ⊎ AreRecorded (revisions_at recorded) given
    → IsNoneFiled named wide ⊎ ((all : List OpaqueSpan) → AreFiled named wide all → (key : ObjectKey) → AreFirstClouded (record { spans = all; revisions = given }) key (firsts_at recorded key))
    → AreWritesKept (record { spans = shown_spans; revisions = shown_given }) named wide recorded
AreKept-made spans shown_spans given shown_given named wide recorded same_spans same_given filed all firsts =
    let kept : AreWritesKept (record { spans = spans; revisions = given }) named wide recorded =
    record { filed = filed; recorded_all = all; firsts = ⊎_elim inl (λ found. inr (found spans filed)) firsts } in
    rw (same_spans, same_given) kept
