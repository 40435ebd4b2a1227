use Rattle.log_context.proofs.OneHistory.{one_history}
use Rattle.log_context.proofs.law.one_history_law.Goals as goal

pub returns : goal.returns
returns c = one_history
