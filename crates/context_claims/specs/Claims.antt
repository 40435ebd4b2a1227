-- The claim of an event of a context.
use Rattle.std.specs.Prelude.{ℕ}
use Rattle.base_types.specs.declared.verdict.claim.Claim.{Claim}
use Rattle.history_model.specs.Events.{Event}
use Rattle.history_model.specs.Exact.{IsExactClaim}
use Rattle.history_model.specs.Histories.{IsEvent}
use Rattle.local_bounds.specs.Asked.{AreDeciding}
use Rattle.log_context.specs.Histories.{history_of}
use Rattle.log_context.specs.Known.{Known}

-- it says exactly what the event asks, with one bound for each removal whose place decides, and no other
pub record IsClaimOf (known : Known) (number : ℕ) (claim : Claim) : Type 0 where
  pub exact : (event : Event) → IsEvent (history_of known) number event → IsExactClaim (history_of known) number event claim
  pub deciding : AreDeciding (history_of known) claim.bounds
