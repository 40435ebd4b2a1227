use Rattle.history_model.proofs.Worked.Conflicts
use Rattle.history_model.proofs.Worked.CreateAndGet
use Rattle.history_model.proofs.Worked.HiddenWrite
use Rattle.history_model.proofs.Worked.RemovalSeenEarly
use Rattle.history_model.proofs.Worked.SeenBeforeMade
use Rattle.history_model.proofs.Worked.UnchangedUpdate
use Rattle.history_model.proofs.examples.explained_examples.Goals as goal

pub returns-clause-create_and_get : goal.returns-clause-create_and_get
returns-clause-create_and_get c = (CreateAndGet.readable, CreateAndGet.outcome)

pub returns-clause-seen_within_slack : goal.returns-clause-seen_within_slack
returns-clause-seen_within_slack c = (SeenBeforeMade.readable_seen_within_slack, SeenBeforeMade.within_slack)

pub returns-clause-unchanged_update : goal.returns-clause-unchanged_update
returns-clause-unchanged_update c = (UnchangedUpdate.readable_unchanged_update, UnchangedUpdate.unchanged)

pub returns-clause-removal_seen_early : goal.returns-clause-removal_seen_early
returns-clause-removal_seen_early c = (RemovalSeenEarly.readable_removal_seen_early, RemovalSeenEarly.outcome)

pub returns-clause-conflict_unasked : goal.returns-clause-conflict_unasked
returns-clause-conflict_unasked c = (Conflicts.readable_conflict_unasked, Conflicts.unasked_outcome)

pub returns-clause-hidden_write : goal.returns-clause-hidden_write
returns-clause-hidden_write c = (HiddenWrite.readable_hidden_write, HiddenWrite.hidden)
