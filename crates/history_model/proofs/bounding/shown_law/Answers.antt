use Rattle.history_model.proofs.Classes.{saw_is}
use Rattle.history_model.proofs.bounding.shown_law.Goals as goal

pub returns : goal.returns
returns c = λ h choice number event item r chosen. saw_is h choice r chosen number event item
