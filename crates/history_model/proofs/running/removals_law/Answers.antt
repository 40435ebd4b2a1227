use Rattle.history_model.proofs.RemovalsLaw.{removals_are}
use Rattle.history_model.proofs.running.removals_law.Goals as goal

pub returns : goal.returns
returns c = removals_are
