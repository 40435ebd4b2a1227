use Rattle.history_model.proofs.Classes.{unplaced_is}
use Rattle.history_model.proofs.bounding.unplaced_law.Goals as goal

pub returns : goal.returns
returns c = λ h choice number event key uid r chosen. unplaced_is h choice r chosen number event key uid
