use Rattle.history_model.proofs.Lists.{list_is, list_never, one_range}
use Rattle.history_model.proofs.bounding.list_law.Goals as goal

pub returns-clause-bounds : goal.returns-clause-bounds
returns-clause-bounds c = λ h choice number place listing bounds r chosen b. list_is h choice r chosen number place listing bounds b

pub returns-clause-never : goal.returns-clause-never
returns-clause-never c = λ h choice number place listing d r chosen a n. list_never h choice r chosen number place listing d a n

pub returns-clause-own_range : goal.returns-clause-own_range
returns-clause-own_range c = one_range
