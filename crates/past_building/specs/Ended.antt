-- How incarnations ended.
use Rattle.std.specs.Prelude.{◌≢◌, ◌↔◌, ℕ, Bool, IsTrue, List, Option, Some, None, map, All, AllPairs, Contains, option_map}
use Rattle.history_model.specs.Histories as past
use Rattle.history_model.specs.Incarnations.{IsFirstWithUid, IsRemoval, IsRemovalBehind}
use Rattle.time_windows.specs.History as timed_history
use Rattle.write_groups.specs.declared.event.LogEvent.{LogEvent}
use Rattle.object_past.specs.Modelled.{recorded, version_of}
use Rattle.past_building.specs.Keyed.{RemovalNumbers}
use Rattle.past_building.specs.Surrounded.{HasLog}
use Rattle.object_past.specs.declared.removal.Removal.{Removal}
use Rattle.object_past.specs.declared.version.Version.{Version}

-- the next version of the key is of another object, or there is none
abbrev pub IsEnd : Version → Option Version → Type 0
IsEnd v None = Unit {0}
IsEnd v (Some next) = next.uid ≢ v.uid

abbrev pub revision_of : Option Version → Option ℕ
revision_of after = option_map (λ v. v.revision) after

-- what is found behind a version: the removal of its object, if the version ended its incarnation and there is one
abbrev pub IsFoundAfter : timed_history.History → List LogEvent → RemovalNumbers → Version → Bool → Option Version → Option Removal → Type 0
IsFoundAfter windows events removed v is_first after (Some removal) = IsEnd v after
    × ((h : past.History) → HasLog windows events removed h → (IsTrue is_first ↔ IsFirstWithUid h.versions (version_of v))
    → IsRemovalBehind h (version_of v) (revision_of after) (recorded removal))
IsFoundAfter windows events removed v is_first after None = IsEnd v after → (h : past.History) → HasLog windows events removed h
    → (IsTrue is_first ↔ IsFirstWithUid h.versions (version_of v)) → (removal : past.Removal) → IsRemovalBehind h (version_of v) (revision_of after) removal → ⊥

-- all removals, in any order
pub record AreFound (h : past.History) (removals : List Removal) : Type 0 where
  pub sound : All (λ removal. IsRemoval h (recorded removal)) removals
  pub full : (removal : past.Removal) → IsRemoval h removal → Contains (map recorded removals) removal
  pub apart : AllPairs (λ a b. a.range.event ≢ b.range.event) removals
