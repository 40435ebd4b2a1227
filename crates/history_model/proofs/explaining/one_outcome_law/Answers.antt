use Rattle.history_model.proofs.OneOutcome.{one_outcome_is}
use Rattle.history_model.proofs.explaining.one_outcome_law.Goals as goal

pub returns : goal.returns
returns c = one_outcome_is
