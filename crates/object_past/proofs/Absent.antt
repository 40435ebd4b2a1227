-- Where a key is absent whatever places its removals have.
use Rattle.std.proofs.Common.{◌≡◌, ◌≢◌, ℕ, ◌<◌, ◌≤◌, ◌⊎◌, ⊎_elim, inl, inr, leb, List, map, Option, Some, None, sym, ◌∙◌, subst, ap, arith}
use Rattle.std.specs.List.{All, Any, Contains}
use Rattle.std.specs.Prelude.{◌↔◌, IsTrue}
use Rattle.std.proofs.lemmas.Bool.{cases_lt, le-leb, leb-true}
use Rattle.std.proofs.lemmas.Option.{same_Some}
use Rattle.base_types.proofs.Quantifiers.{Any-contains}
use Rattle.base_types.specs.declared.kubernetes.key.ObjectKey.{ObjectKey}
use Rattle.history_model.proofs.Latest.{latest_is, latest_same}
use Rattle.history_model.proofs.Members.{all_at}
use Rattle.history_model.specs.Bounding.{IsAbsentAnyway, SomewhereIn}
use Rattle.history_model.specs.Histories as history
use Rattle.history_model.specs.Histories.{History}
use Rattle.history_model.specs.States.{IsLatest, latest}
use Rattle.object_past.specs.Endings.{AreEndings}
use Rattle.object_past.specs.Indexed.{AreGone}
use Rattle.object_past.specs.Modelled.{recorded, version_of}
use Rattle.object_past.specs.Past.{AreEnds, AreRising, HasPast, HasVersionAt, IsAbsentIn, Recorded}
use Rattle.object_past.specs.declared.ending.Ending.{Ending}
use Rattle.object_past.specs.declared.removal.Removal.{Removal}
use Rattle.object_past.specs.declared.version.Version.{Version}
use Rattle.object_past.proofs.Ended.{ending_removal}
use Rattle.object_past.proofs.Gone.{ended_key, high_behind, one_of}
use Rattle.object_past.proofs.Looking.{from_map, in_map, rising_mapped}
use Rattle.history_model.proofs.Members.{at_in}

abbrev latest_in : Recorded → ObjectKey → ℕ → Option history.Version
latest_in past key place = latest (map version_of past.versions) key place

-- the latest version wasn't removed
pub present : (past : Recorded) (key : ObjectKey) (place : ℕ) (v : Version) → Some (version_of v) ≡ latest_in past key place → All (λ r. r.last ≢ v.revision) past.removals → IsAbsentIn past key place → ⊥
present past key place v is none (inl nowhere) = cc (is ∙ nowhere)
present past key place v is none (inr (w, removal, here, among, last, high)) =
    all_at (λ r. r.last ≢ v.revision) past.removals removal none among (last ∙ ap (λ (x : history.Version). x.revision) (sym (same_Some (version_of v) w (is ∙ here))))

-- the latest version was removed
pub removed : (past : Recorded) (endings : List Ending) (key : ObjectKey) (place : ℕ) (v : Version) (e : Ending) → AreEnds past.versions past.removals → AreEndings past.removals endings
    → Some (version_of v) ≡ latest_in past key place → Contains endings e → e.last ≡ v.revision → IsTrue (leb e.high place) ↔ IsAbsentIn past key place
removed past endings key place v e ends are is among at = (forth, back)
  where
    own : (removal : Removal) × Contains past.removals removal × (removal.last ≡ v.revision) × (removal.range.high ≡ e.high)
    own = let r = ending_removal past.removals endings e are among in (r.0, at_in past.removals e.position r.0 r.1, r.2 ∙ at, r.3)

    forth : IsTrue (leb e.high place) → IsAbsentIn past key place
    forth holds = let high : e.high ≤ place = leb-true e.high place holds in let top : own.0.range.high ≡ e.high = own.3 in inr (version_of v, own.0, sym is, own.1, own.2, omega arith)

    back : IsAbsentIn past key place → IsTrue (leb e.high place)
    back (inl nowhere) = absurd (cc (is ∙ nowhere))
    back (inr (w, removal, here, there, last, high)) =
        let same : removal.last ≡ own.0.last = last ∙ ap (λ (x : history.Version). x.revision) (sym (same_Some (version_of v) w (is ∙ here))) ∙ sym own.2 in
        let one : removal ≡ own.0 = one_of (λ (r : Removal). r.last) past.removals removal own.0 ends.apart there own.1 same in
        let top : removal.range.high ≡ e.high = ap (λ (r : Removal). r.range.high) one ∙ own.3 in
        le-leb e.high place (omega arith)

-- a place with this latest version
latest_here : (past : Recorded) (key : ObjectKey) (place : ℕ) (found : Option history.Version) → AreRising past.versions → IsLatest (map version_of past.versions) key place found → latest_in past key place ≡ found
latest_here past key place found rising is =
    latest_same (map version_of past.versions) key place (latest_in past key place) found (rising_mapped past.versions rising) (latest_is (map version_of past.versions) key place) is

-- at the end of a removal's range its version is the latest
behind_range : (past : Recorded) (key : ObjectKey) (removal : Removal) → AreRising past.versions → AreEnds past.versions past.removals → Contains past.removals removal → removal.key ≡ key
    → HasVersionAt past.versions key removal.last → IsAbsentIn past key removal.range.high
behind_range past key removal rising ends among of_key any =
    let v : Version = any.1 in
    let at : v.revision ≡ removal.last = any.4.1 in
    let up : removal.last < removal.range.high = high_behind past.versions past.removals removal ends among in
    inr (
      version_of v,
      removal,
      latest_here past key removal.range.high (Some (version_of v)) rising (
        in_map version_of past.versions v (any.0, any.2, any.3),
        any.4.0,
        omega arith,
        λ w there key_of_w upto.
            let x = from_map version_of past.versions w there in
            let of_x : x.0.key ≡ removal.key = ap (λ (y : history.Version). y.key) x.2 ∙ key_of_w ∙ sym of_key in
            let same : x.0.revision ≡ w.revision = ap (λ (y : history.Version). y.revision) x.2 in
            ⊎_elim
            (λ (less : removal.last < x.0.revision).
            let past_it : removal.range.high < x.0.revision =
            all_at (λ y. y.key ≡ removal.key → removal.last < y.revision → removal.range.high < y.revision) past.versions x.0
            (all_at (λ r. All (λ y. y.key ≡ r.key → r.last < y.revision → r.range.high < y.revision) past.versions) past.removals removal ends.before_next among) x.1 of_x less in
            absurd (omega arith))
            (λ (le : x.0.revision ≤ removal.last). omega arith)
            (cases_lt removal.last x.0.revision),
      ),
      among,
      sym at,
      omega arith,
    )

abbrev pub Within : ℕ → ℕ → ℕ → Type 0
Within low high place = (low ≤ place) × (place ≤ high)

pub absent_from : (past : Recorded) (key : ObjectKey) (gone : List ℕ) (low high : ℕ) → AreRising past.versions → AreEnds past.versions past.removals → AreGone past.versions past.removals key gone
    → low ≤ high → IsAbsentIn past key low ⊎ Any (Within low high) gone → SomewhereIn low high (IsAbsentIn past key)
absent_from past key gone low high rising ends are order (inl absent) = (low, omega arith, order, absent)
absent_from past key gone low high rising ends are order (inr any) =
    let s = are.sound any.1 (any.0, any.2, any.3) in
    (any.1, any.4.0, any.4.1, subst (IsAbsentIn past key) s.4 (behind_range past key s.0 rising ends s.1 s.2 s.3))

pub absent_to : (past : Recorded) (key : ObjectKey) (gone : List ℕ) (low high : ℕ) → AreRising past.versions → AreEnds past.versions past.removals → AreGone past.versions past.removals key gone
    → SomewhereIn low high (IsAbsentIn past key) → IsAbsentIn past key low ⊎ Any (Within low high) gone
absent_to past key gone low high rising ends are (place, from, upto, inl nowhere) =
    let none = subst (IsLatest (map version_of past.versions) key place) nowhere (latest_is (map version_of past.versions) key place) in
    inl (inl (latest_here past key low None rising (λ w among of_key. let above : place < w.revision = none w among of_key in omega arith)))
absent_to past key gone low high rising ends are (place, from, upto, inr (v, removal, here, among, last, top)) =
    let is = subst (IsLatest (map version_of past.versions) key place) here (latest_is (map version_of past.versions) key place) in
    let v0 = from_map version_of past.versions v is.0 in
    let at : v0.0.revision ≡ v.revision = ap (λ (x : history.Version). x.revision) v0.2 in
    let key_of : v0.0.key ≡ key = ap (λ (x : history.Version). x.key) v0.2 ∙ is.1 in
    let of_key : removal.key ≡ key = ended_key past.versions past.removals v0.0 removal rising ends v0.1 among (last ∙ sym at) ∙ key_of in
    ⊎_elim
    (λ (before : removal.range.high < low).
    let up : removal.last < removal.range.high = high_behind past.versions past.removals removal ends among in
    inl (inr (
      v,
      removal,
      latest_here past key low (Some v) rising (is.0, is.1, omega arith, λ w there key_of_w below. is.3 w there key_of_w (omega arith)),
      among,
      last,
      omega arith,
    )))
    (λ (behind : low ≤ removal.range.high).
    inr (Any-contains (Within low high) gone removal.range.high
    (are.full removal among of_key (Any-contains (λ (w : Version). (w.key ≡ key) × (w.revision ≡ removal.last)) past.versions v0.0 v0.1 (key_of, at ∙ sym last))) (behind, omega arith)))
    (cases_lt removal.range.high low)

-- ---- in the terms of the model of history

pub in_history : (past : Recorded) (h : History) (key : ObjectKey) (place : ℕ) → HasPast past h → IsAbsentIn past key place → IsAbsentAnyway h key place
in_history past h key place has (inl nowhere) = inl (ap (λ l. latest l key place) has.versions ∙ nowhere)
in_history past h key place has (inr (v, removal, here, among, last, high)) =
    inr (v, recorded removal, ap (λ l. latest l key place) has.versions ∙ here, subst (λ l. Contains l (recorded removal)) (sym has.removals) (in_map recorded past.removals removal among), last, high)

of_history : (past : Recorded) (h : History) (key : ObjectKey) (place : ℕ) → HasPast past h → IsAbsentAnyway h key place → IsAbsentIn past key place
of_history past h key place has (inl nowhere) = inl (ap (λ l. latest l key place) (sym has.versions) ∙ nowhere)
of_history past h key place has (inr (v, removal, here, among, last, high)) =
    let r = from_map recorded past.removals removal (subst (λ l. Contains l removal) has.removals among) in
    let at : r.0.last ≡ removal.last = ap (λ (x : history.Removal). x.last) r.2 in
    let top : r.0.range.high ≡ removal.range.high = ap (λ (x : history.Removal). x.range.high) r.2 in
    inr (v, r.0, ap (λ l. latest l key place) (sym has.versions) ∙ here, r.1, at ∙ last, omega arith)

pub somewhere_in_history : (past : Recorded) (h : History) (key : ObjectKey) (low high : ℕ) → HasPast past h → SomewhereIn low high (IsAbsentIn past key) → SomewhereIn low high (IsAbsentAnyway h key)
somewhere_in_history past h key low high has (place, from, upto, absent) = (place, from, upto, in_history past h key place has absent)

pub somewhere_of_history : (past : Recorded) (h : History) (key : ObjectKey) (low high : ℕ) → HasPast past h → SomewhereIn low high (IsAbsentAnyway h key) → SomewhereIn low high (IsAbsentIn past key)
somewhere_of_history past h key low high has (place, from, upto, absent) = (place, from, upto, of_history past h key place has absent)
