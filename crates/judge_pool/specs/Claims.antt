-- The claims of all events.
use Rattle.std.specs.Prelude.{◌≡◌, ℕ, List, Some, length, slice_get}
use Rattle.base_types.specs.declared.verdict.claim.Claim.{Claim}

-- one for each event, in order
pub record AreClaims (events : ℕ) (IsClaim : ℕ → Claim → Type 0) (claims : List Claim) : Type 0 where
  pub all : length claims ≡ events
  pub each : (event : ℕ) (claim : Claim) → slice_get claims event ≡ Some claim → IsClaim event claim
