use Rattle.context_laws.proofs.DecidingFacts.{decides_by_choice}
use Rattle.context_laws.proofs.law.deciding_law.Goals as goal

pub returns : goal.returns
returns c = decides_by_choice c.deciding_law.ensures
