use Rattle.history_model.proofs.Classes.{refused_without_is, refused_with_is}
use Rattle.history_model.proofs.bounding.refused_law.Goals as goal

pub returns-clause-without_uid : goal.returns-clause-without_uid
returns-clause-without_uid c = λ h choice number event key r chosen. refused_without_is h choice r chosen number event key

pub returns-clause-with_uid : goal.returns-clause-with_uid
returns-clause-with_uid c = λ h choice number event key r chosen. refused_with_is h choice r chosen number event key
