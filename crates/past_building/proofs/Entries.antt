-- The object before a write, found among the versions of lower revisions.
use Rattle.std.proofs.Common.{◌≡◌, ◌≢◌, ℕ, ◌-◌, ◌<◌, ◌≤◌, ◌⊎◌, inl, inr, ⊎_elim, Bool, List, map, Option, Some, None, refl, sym, ap, ◌∙◌, subst, arith}
use Rattle.std.specs.Prelude.{◌↔◌, IsTrue, Any, Contains}
use Rattle.std.proofs.lemmas.List.Elements.{Contains-append_cases, Contains-append_left}
use Rattle.base_types.specs.declared.kubernetes.key.ObjectKey.{ObjectKey}
use Rattle.history_model.proofs.Latest.{latest_is, latest_same}
use Rattle.history_model.proofs.Members.{all_at}
use Rattle.history_model.specs.Groups.{Making}
use Rattle.history_model.specs.Histories as past
use Rattle.history_model.specs.Incarnations.{IsFirstWithUid}
use Rattle.history_model.specs.Making.{IsAnew, IsEntryAfter, IsEntryBefore, IsUsedUid}
use Rattle.history_model.specs.States.{latest}
use Rattle.past_building.proofs.Firsts.{first_later}
use Rattle.object_past.proofs.Looking.{in_map, from_map}
use Rattle.past_building.proofs.Mapped.{any_in, in_any}
use Rattle.past_building.specs.Growing.{HasNone, IsFirst, IsLastOf}
use Rattle.object_past.specs.Modelled.{version_of}
use Rattle.past_building.specs.Written.{Extends}
use Rattle.object_past.specs.declared.version.Version.{Version}

-- a version of the history is one of those below the revision, or not below it
split : (h : past.History) (done : List Version) (revision : ℕ) → Extends h done revision → (w : past.Version) → Contains h.versions w
    → ((v : Version) × Contains done v × (version_of v ≡ w)) ⊎ (revision ≤ w.revision)
split h done revision e w among = ⊎_elim
    (λ before. inl (from_map version_of done w before))
    (λ after. inr (all_at (λ v. revision ≤ v.revision) e.later w e.behind after))
    (Contains-append_cases (map version_of done) e.later w (subst (λ l. Contains l w) e.whole among))

known : (h : past.History) (done : List Version) (revision : ℕ) → Extends h done revision → (v : Version) → Contains done v → Contains h.versions (version_of v)
known h done revision e v among = subst (λ l. Contains l (version_of v)) (sym e.whole) (Contains-append_left (map version_of done) e.later (version_of v) (in_map version_of done v among))

pub latest_none : (h : past.History) (done : List Version) (revision : ℕ) (key : ObjectKey) → Extends h done revision → HasNone done key
    → latest h.versions key (revision - 1) ≡ None
latest_none h done revision key e none = latest_same h.versions key (revision - 1) (latest h.versions key (revision - 1)) None e.rising (latest_is h.versions key (revision - 1))
    (λ w among of_key. ⊎_elim
    (λ before. absurd (all_at (λ v. v.key ≢ key) done before.0 none before.1 (ap (λ (x : past.Version). x.key) before.2 ∙ of_key)))
    (λ up. let positive = e.positive in omega arith)
    (split h done revision e w among))

pub latest_some : (h : past.History) (done : List Version) (revision : ℕ) (key : ObjectKey) (v : Version) → Extends h done revision → IsLastOf done key v
    → latest h.versions key (revision - 1) ≡ Some (version_of v)
latest_some h done revision key v e last = latest_same h.versions key (revision - 1) (latest h.versions key (revision - 1)) (Some (version_of v)) e.rising (latest_is h.versions key (revision - 1)) (
  known h done revision e v last.known,
  last.of_key,
  (let below = all_at (λ w. w.revision < revision) done v e.below last.known in omega arith),
  λ w among of_key upto. ⊎_elim
      (λ before. let order = all_at (λ x. x.key ≡ key → x.revision ≤ v.revision) done before.0 last.greatest before.1 (ap (λ (x : past.Version). x.key) before.2 ∙ of_key) in
      subst (λ (x : past.Version). x.revision ≤ v.revision) before.2 order)
      (λ up. let below = all_at (λ w. w.revision < revision) done v e.below last.known in omega arith)
      (split h done revision e w among),
)

-- the flag of a version is that of the history
pub first_in : (h : past.History) (done : List Version) (revision : ℕ) (v : Version) (is_first : Bool) → Extends h done revision → Contains done v
    → (IsTrue is_first ↔ IsFirst done v) → IsTrue is_first ↔ IsFirstWithUid h.versions (version_of v)
first_in h done revision v is_first e among flag =
    let kept = first_later (map version_of done) e.later (version_of v) (λ w after. let up = all_at (λ x. revision ≤ x.revision) e.later w e.behind after in
    let below = all_at (λ x. x.revision < revision) done v e.below among in omega arith) in (
      (λ t. subst (λ l. IsFirstWithUid l (version_of v)) (sym e.whole) (kept.0 (flag.0 t))),
      (λ first. flag.1 (kept.1 (subst (λ l. IsFirstWithUid l (version_of v)) e.whole first))),
    )

pub used_in : (h : past.History) (done : List Version) (m : Making) (is_used : Bool) → Extends h done m.item.revision
    → (IsTrue is_used ↔ Any (λ v. v.uid ≡ m.item.uid) done) → IsTrue is_used ↔ IsUsedUid h m
used_in h done m is_used e flag = (
  (λ t. let found = any_in (λ v. v.uid ≡ m.item.uid) done (flag.0 t) in
      (version_of found.0, known h done m.item.revision e found.0 found.1, all_at (λ w. w.revision < m.item.revision) done found.0 e.below found.1, found.2)),
  (λ used. ⊎_elim
      (λ before. flag.1 (in_any (λ v. v.uid ≡ m.item.uid) done before.0 before.1 (ap (λ (x : past.Version). x.uid) before.2 ∙ used.3)))
      (λ up. absurd (let below = used.2 in omega arith))
      (split h done m.item.revision e used.0 used.1)),
)

-- what is before a write is one thing
pub entry_same : (h : past.History) (m : Making) (a b : Option past.Version) → IsEntryBefore h m a → IsEntryBefore h m b → a ≡ b
entry_same h m a b = go (latest h.versions m.item.key (m.item.revision - 1))
  where
    go : (found : Option past.Version) → IsEntryAfter h m found a → IsEntryAfter h m found b → a ≡ b
    go None x y = x ∙ sym y
    go (Some v) (inl x) (inl y) = x.1 ∙ sym y.1
    go (Some v) (inl x) (inr y) = absurd (y.0 x.0)
    go (Some v) (inr x) (inl y) = absurd (x.0 y.0)
    go (Some v) (inr x) (inr y) = x.1 ∙ sym y.1

pub entry_none : (h : past.History) (done : List Version) (m : Making) → Extends h done m.item.revision → HasNone done m.item.key → IsEntryBefore h m None
entry_none h done m e none = subst (λ found. IsEntryAfter h m found None) (sym (latest_none h done m.item.revision m.item.key e none)) refl

pub entry_gone : (h : past.History) (done : List Version) (m : Making) (v : Version) → Extends h done m.item.revision → IsLastOf done m.item.key v
    → IsAnew h m (version_of v) → IsEntryBefore h m None
entry_gone h done m v e last anew = subst (λ found. IsEntryAfter h m found None) (sym (latest_some h done m.item.revision m.item.key v e last)) (inl (anew, refl))

pub entry_there : (h : past.History) (done : List Version) (m : Making) (v : Version) → Extends h done m.item.revision → IsLastOf done m.item.key v
    → (IsAnew h m (version_of v) → ⊥) → IsEntryBefore h m (Some (version_of v))
entry_there h done m v e last old = subst (λ found. IsEntryAfter h m found (Some (version_of v))) (sym (latest_some h done m.item.revision m.item.key v e last)) (inr (old, refl))
