use Rattle.history_model.proofs.Locality.{run_is_local, local_is_run}
use Rattle.history_model.proofs.running.locality_law.Goals as goal

pub returns : goal.returns
returns c = λ h n p steps r placed are. (run_is_local h n p steps r placed are, local_is_run h n p steps r placed are)
