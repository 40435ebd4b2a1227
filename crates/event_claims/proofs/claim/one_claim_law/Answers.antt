use Rattle.event_claims.proofs.Sameness.{one_claim}
use Rattle.event_claims.proofs.claim.one_claim_law.Goals as goal

pub returns : goal.returns
returns c = one_claim
