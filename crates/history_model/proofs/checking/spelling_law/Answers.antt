use Rattle.history_model.proofs.Spelling.{spelled_is}
use Rattle.history_model.proofs.checking.spelling_law.Goals as goal

pub returns : goal.returns
returns c = λ h lines r. spelled_is h r lines
