use Rattle.history_query.proofs.OneTextFacts.{one_text}
use Rattle.history_query.proofs.law.one_text_law.Goals as goal

pub returns : goal.returns
returns c = one_text
