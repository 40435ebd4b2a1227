use Rattle.companion.proofs.OneAnswerFacts.{one_answer}
use Rattle.companion.proofs.law.one_answer_law.Goals as goal

pub returns : goal.returns
returns c = one_answer c.one_page_law.ensures
