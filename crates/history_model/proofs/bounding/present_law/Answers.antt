use Rattle.history_model.proofs.Classes.{saw_some_is}
use Rattle.history_model.proofs.bounding.present_law.Goals as goal

pub returns : goal.returns
returns c = λ h choice number event key r chosen. saw_some_is h choice r chosen number event key
