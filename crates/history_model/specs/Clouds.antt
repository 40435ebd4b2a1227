-- Where unrecorded writes may have changed an object.
use Rattle.std.specs.Prelude.{◌<◌, ◌≤◌, ℕ}
use Rattle.base_types.specs.Hidden.{IsHidden}
use Rattle.base_types.specs.declared.kubernetes.key.ObjectKey.{ObjectKey}
use Rattle.history_model.specs.Events.{Event}
use Rattle.history_model.specs.Groups.{Hides}
use Rattle.history_model.specs.Histories.{History, Version, IsEvent}
use Rattle.history_model.specs.Windows.{low_end, high_end}

-- the unrecorded write of this event may have changed the key's object, and no version tells by this place
abbrev pub IsHiddenBy : History → ObjectKey → ℕ → Event → Type 0
IsHiddenBy h key place event = IsHidden Version (λ v. v.key) (λ v. v.revision) h.versions (Hides key event) (low_end h event) (high_end h event) key place

-- nothing is known of the key's object at this place
abbrev pub IsClouded : History → ObjectKey → ℕ → Type 0
IsClouded h key place = (number : ℕ) × (event : Event) × IsEvent h number event × IsHiddenBy h key place event

abbrev pub IsCloudedWithin : History → ObjectKey → ℕ → ℕ → Type 0
IsCloudedWithin h key low high = (place : ℕ) × (low ≤ place) × (place ≤ high) × IsClouded h key place

-- an unrecorded write may have made this revision of the key
abbrev pub MayBeUnrecorded : History → ObjectKey → ℕ → Type 0
MayBeUnrecorded h key revision = (number : ℕ) × (event : Event) × IsEvent h number event × Hides key event
    × (low_end h event < revision) × (revision ≤ high_end h event)
