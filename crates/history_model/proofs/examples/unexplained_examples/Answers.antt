use Rattle.history_model.proofs.Worked.Conflicts
use Rattle.history_model.proofs.Worked.HiddenWrite
use Rattle.history_model.proofs.Worked.OutOfTurn
use Rattle.history_model.proofs.Worked.SeenBeforeMade
use Rattle.history_model.proofs.Worked.UnchangedUpdate
use Rattle.history_model.proofs.examples.unexplained_examples.Goals as goal

pub returns-clause-seen_before_made : goal.returns-clause-seen_before_made
returns-clause-seen_before_made c = (SeenBeforeMade.readable_seen_before_made, SeenBeforeMade.too_early)

pub returns-clause-second_update : goal.returns-clause-second_update
returns-clause-second_update c = (UnchangedUpdate.readable_second_update, UnchangedUpdate.second)

pub returns-clause-conflict : goal.returns-clause-conflict
returns-clause-conflict c = (Conflicts.readable_conflict, Conflicts.refused_outcome)

pub returns-clause-hidden_no_more : goal.returns-clause-hidden_no_more
returns-clause-hidden_no_more c = (HiddenWrite.readable_hidden_no_more, HiddenWrite.no_more)

pub returns-clause-out_of_turn : goal.returns-clause-out_of_turn
returns-clause-out_of_turn c = (OutOfTurn.readable_out_of_turn, OutOfTurn.outcome)
