use Rattle.history_model.proofs.Classes.{found_is}
use Rattle.history_model.proofs.bounding.found_law.Goals as goal

pub returns : goal.returns
returns c = λ h choice number event item created r chosen. found_is h choice r chosen number event item created
