-- An object's versions are cut into incarnations where its uid changes (Kubernetes "Object Names and IDs",
-- UIDs). An incarnation may end in a removal.
use Rattle.std.specs.Prelude.{◌≡◌, ◌≢◌, ◌<◌, ◌≤◌, ◌+◌, ◌-◌, ℕ, max, min, ◌⊎◌, List, Option, Some, None, AllPairs, Contains}
use Rattle.history_model.specs.Events.{Text, Event, Removed}
use Rattle.history_model.specs.Histories.{History, Version, Removal}
use Rattle.history_model.specs.Judging.{IsFirst}
use Rattle.history_model.specs.Windows.{lowest, highest, last_place}
use Rattle.base_types.specs.declared.kubernetes.key.ObjectKey.{ObjectKey}

-- v is the last version of its incarnation; the next one's first version has the revision `next`
abbrev pub EndsBefore : List Version → Version → Option ℕ → Type 0
EndsBefore versions v None = (w : Version) → Contains versions w → w.key ≡ v.key → w.revision ≤ v.revision
EndsBefore versions v (Some next) = (v.revision < next)
    × ((w : Version) × Contains versions w × (w.revision ≡ next) × (w.key ≡ v.key) × (w.uid ≢ v.uid))
    × ((w : Version) → Contains versions w → w.key ≡ v.key → (w.revision ≤ v.revision) ⊎ (next ≤ w.revision))

-- where the uid comes back, v is of the first incarnation with it: from each version with the uid to v all have it
abbrev pub IsFirstWithUid : List Version → Version → Type 0
IsFirstWithUid versions v = (w between : Version) → Contains versions w → w.key ≡ v.key → w.uid ≡ v.uid
    → Contains versions between → between.key ≡ v.key → w.revision < between.revision → between.revision < v.revision → between.uid ≡ v.uid

abbrev pub IsRemovalOf : ObjectKey → Text → Event → Type 0
IsRemovalOf key uid event = event.answer ≡ Removed key uid

-- the last place before the next incarnation
abbrev pub place_before : Option ℕ → ℕ
place_before None = last_place
place_before (Some next) = next - 1

-- the removal of the incarnation whose last version is v: the first of its uid, at some place behind v, within its event's window, before the next incarnation
pub record IsRemovalBehind (h : History) (v : Version) (next : Option ℕ) (removal : Removal) : Type 0 where
  pub only : IsFirstWithUid h.versions v
  pub event : Event
  pub first : IsFirst h (IsRemovalOf v.key v.uid) removal.range.event event
  pub of_key : removal.key ≡ v.key
  pub of_uid : removal.uid ≡ v.uid
  pub of_last : removal.last ≡ v.revision
  pub low : removal.range.low ≡ max (lowest h event.lo) v.revision + 1
  pub high : removal.range.high ≡ min (highest h event.hi) (place_before next)
  pub some_place : removal.range.low ≤ removal.range.high

-- a removal of the history, with the version that it ended
pub record IsRemoval (h : History) (removal : Removal) : Type 0 where
  pub version : Version
  pub next : Option ℕ
  pub known : Contains h.versions version
  pub ends : EndsBefore h.versions version next
  pub behind : IsRemovalBehind h version next removal

-- all removals, by event
pub record AreRemovals (h : History) : Type 0 where
  pub rising : AllPairs (λ a b. a.range.event < b.range.event) h.removals
  pub sound : (removal : Removal) → Contains h.removals removal → IsRemoval h removal
  pub full : (removal : Removal) → IsRemoval h removal → Contains h.removals removal
