use Rattle.context_laws.proofs.PlacingFacts.{explained_right}
use Rattle.context_laws.proofs.law.placement_law.Goals as goal

pub returns : goal.returns
returns c = explained_right c.printed_law.ensures.verified
