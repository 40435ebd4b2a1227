use Rattle.event_claims.proofs.Promising.{right_is}
use Rattle.event_claims.proofs.claim.local_bounds_law.Goals as goal

pub returns : goal.returns
returns c = right_is
