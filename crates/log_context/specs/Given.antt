-- At which places an authorizer's caches may have been when it gave a decision.
use Rattle.std.specs.Prelude.{◌≡◌, ℕ, Bool, true, List, Option, slice_get, option_and_then, option_map}
use Rattle.audit_event.specs.declared.event.Event.{Event}
use Rattle.base_types.specs.declared.verdict.placed.Places.{Places}
use Rattle.base_types.specs.declared.kubernetes.request.Decision.{Decision}
use Rattle.base_types.specs.declared.kubernetes.request.Decision.TheVariants.{Allow, Forbid}
use Rattle.base_types.specs.declared.kubernetes.request.Possible.{Possible}
use Rattle.rbac_timeline.specs.Decisions.{AreWithin}
use Rattle.write_groups.specs.declared.event.LogEvent.{LogEvent}

-- caches at these places, from low to high, could give the decision
pub record IsGivenWithin (decides : Places → Bool) (low high : ℕ) (places : Places) : Type 0 where
  pub within : AreWithin low high places
  pub right : decides places ≡ true

abbrev pub AreNoneGiven : (Places → Bool) → (low high : ℕ) → Type 0
AreNoneGiven decides low high = (places : Places) → IsGivenWithin decides low high places → ⊥

-- the event of this number and its decision, where that is judged
abbrev pub judged_in : List Event → List LogEvent → ℕ → Option (Event × Decision)
judged_in events log number =
    option_and_then (λ event. option_map (λ decision. (event, decision)) (option_and_then (λ logged. logged.decision) (slice_get log number))) (slice_get events number)

-- the decision is possible
abbrev pub says : Possible → Decision → Bool
says possible Allow = possible.allow
says possible Forbid = possible.forbid
