use Rattle.history_model.proofs.Classes.{listed_is}
use Rattle.history_model.proofs.bounding.listed_law.Goals as goal

pub returns : goal.returns
returns c = λ h choice number event listing r chosen. listed_is h choice r chosen number event listing
