-- An event of a context has one claim, and its bounds are on removals that there are.
use Rattle.std.proofs.Common.{◌≡◌, ℕ, ◌<◌, Some, All, length, slice_get, ap, ◌∙◌}
use Rattle.std.specs.Prelude.{option_map}
use Rattle.std.proofs.lemmas.Option.{slice_get-map}
use Rattle.base_types.specs.declared.verdict.claim.Bound.{Bound}
use Rattle.base_types.specs.declared.verdict.claim.Claim.{Claim}
use Rattle.context_claims.specs.Claims.{IsClaimOf}
use Rattle.event_claims.proofs.Answering.{bounds_within}
use Rattle.event_claims.proofs.Sameness as of_history
use Rattle.history_model.proofs.OutcomeLaw.{get_within}
use Rattle.history_model.specs.Events.{Event}
use Rattle.history_model.specs.Histories.{IsEvent, ranges}
use Rattle.log_context.specs.Histories.{history_of}
use Rattle.log_context.specs.Known.{Known}
use Rattle.write_groups.specs.Modelled.{event_of}
use Rattle.write_groups.specs.declared.event.LogEvent.{LogEvent}

-- each number of the log is that of an event
pub event_at : (known : Known) (number : ℕ) → number < length known.log → (event : Event) × IsEvent (history_of known) number event
event_at known number below = (event_of item.0, slice_get-map event_of known.log number ∙ ap (λ o. option_map event_of o) item.1)
  where
    item : (logged : LogEvent) × (slice_get known.log number ≡ Some logged)
    item = get_within known.log number below

pub one_claim : (known : Known) (number : ℕ) (a b : Claim) → number < length known.log → IsClaimOf known number a → IsClaimOf known number b → a ≡ b
one_claim known number a b below of_a of_b =
    let event = event_at known number below in
    of_history.one_claim (history_of known) number event.0 a b (of_a.exact event.0 event.1) (of_b.exact event.0 event.1) of_a.deciding of_b.deciding

pub claim_within : (known : Known) (number : ℕ) (claim : Claim) → IsClaimOf known number claim → All (λ (bound : Bound). bound.range < length (ranges (history_of known))) claim.bounds
claim_within known number claim is = bounds_within (history_of known) claim.bounds is.deciding
