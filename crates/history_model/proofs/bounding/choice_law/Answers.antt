use Rattle.history_model.proofs.OpenBounds.{open_is}
use Rattle.history_model.proofs.bounding.choice_law.Goals as goal

pub returns : goal.returns
returns c = open_is
