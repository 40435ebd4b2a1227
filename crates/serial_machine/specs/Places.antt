-- What is wrong with the places of one event's line.
use Rattle.std.specs.Prelude.{◌≡◌, ℕ, ◌⊎◌, false, List, Some, slice_get}
use Rattle.base_types.specs.declared.verdict.placed.PlacedLine.{PlacedLine}
use Rattle.base_types.specs.declared.verdict.placed.Places.{Places}
use Rattle.base_types.specs.declared.kubernetes.request.Decision.{Decision}
use Rattle.history_model.specs.Checking.{IsOutside}
use Rattle.history_model.specs.Decisions.{AreCachePlaces}
use Rattle.history_model.specs.Events.{Event}
use Rattle.history_model.specs.Histories.{History}
use Rattle.history_model.specs.Placed.{line_place, line_places}
use Rattle.history_model.specs.Words.{word}

-- a decision is judged, which caches at these places can't have given at that time
abbrev pub AreOutOfCaches : History → Event → Places → Type 0
AreOutOfCaches h event places = (decided : Decision) × (event.decision ≡ Some decided) × (AreCachePlaces h event places → ⊥)

-- the event can't stand at the places of its line
abbrev pub IsMisplaced : History → List PlacedLine → ℕ → Event → Type 0
IsMisplaced h lines number event = IsOutside h event (word h number event) (line_place (slice_get lines number))
    ⊎ AreOutOfCaches h event (line_places (slice_get lines number))

-- a decision is judged, which isn't that of the roles and bindings at its line's places
abbrev pub IsUndecided : History → List PlacedLine → ℕ → Event → Type 0
IsUndecided h lines number event = (decided : Decision) × (event.decision ≡ Some decided) × (h.decides number (line_places (slice_get lines number)) ≡ false)
