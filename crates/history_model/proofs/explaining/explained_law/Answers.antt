use Rattle.history_model.proofs.Global.{global_is}
use Rattle.history_model.proofs.explaining.explained_law.Goals as goal

pub returns : goal.returns
returns c = global_is
