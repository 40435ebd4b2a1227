use Rattle.history_model.proofs.Worked.OneRemoval
use Rattle.history_model.proofs.Worked.RemovalWithoutPlace
use Rattle.history_model.proofs.examples.removal_examples.Goals as goal

pub returns-clause-one_removal : goal.returns-clause-one_removal
returns-clause-one_removal c = (OneRemoval.readable_one_removal, OneRemoval.outcome)

pub returns-clause-removal_without_place : goal.returns-clause-removal_without_place
returns-clause-removal_without_place c = (RemovalWithoutPlace.readable_removal_without_place, RemovalWithoutPlace.outcome)
