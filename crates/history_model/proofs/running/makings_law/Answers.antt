use Rattle.history_model.proofs.MakingsLaw.{makings_are}
use Rattle.history_model.proofs.running.makings_law.Goals as goal

pub returns : goal.returns
returns c = makings_are
