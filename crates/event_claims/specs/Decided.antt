-- What is known of an event's decision.
use Rattle.std.specs.Prelude.{◌≡◌, ℕ, Some, None}
use Rattle.base_types.specs.PlaceOrder.{AreLeastPlaces}
use Rattle.base_types.specs.declared.verdict.placed.Places.{Places}
use Rattle.base_types.specs.declared.kubernetes.request.Decision.{Decision}
use Rattle.event_claims.specs.declared.decided.Decided.{Decided}
use Rattle.event_claims.specs.declared.decided.Decided.TheVariants.{Unasked, Impossible, Given}
use Rattle.history_model.specs.Decisions.{IsDecidedAt}
use Rattle.history_model.specs.Events.{Event}
use Rattle.history_model.specs.Histories.{History}

abbrev pub IsDecided : History → ℕ → Event → Decided → Type 0
IsDecided h number event Unasked = event.decision ≡ None
IsDecided h number event Impossible = (decided : Decision) × (event.decision ≡ Some decided) × ((places : Places) → IsDecidedAt h number event places → ⊥)
IsDecided h number event (Given placed) = (event.decision ≡ Some placed.decision) × AreLeastPlaces (IsDecidedAt h number event) placed.places
