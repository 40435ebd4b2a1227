use Rattle.history_model.proofs.StateLaw.{state_is}
use Rattle.history_model.proofs.running.state_law.Goals as goal

pub returns : goal.returns
returns c = state_is
