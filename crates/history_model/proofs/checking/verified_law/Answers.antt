use Rattle.history_model.proofs.CheckLaw.{faultless_is}
use Rattle.history_model.proofs.checking.verified_law.Goals as goal

pub returns : goal.returns
returns c = λ h lines r. faultless_is h r lines
