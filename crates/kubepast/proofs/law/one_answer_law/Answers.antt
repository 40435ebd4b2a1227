use Rattle.kubepast.proofs.OneAnswerFacts.{one_answer}
use Rattle.kubepast.proofs.law.one_answer_law.Goals as goal

pub returns : goal.returns
returns c = one_answer c.one_answer_law.ensures c.one_text_law.ensures
