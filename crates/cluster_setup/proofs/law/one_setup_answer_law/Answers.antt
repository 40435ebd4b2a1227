use Rattle.cluster_setup.proofs.OneAnswerFacts.{one_setup_answer}
use Rattle.cluster_setup.proofs.law.one_setup_answer_law.Goals as goal

pub returns : goal.returns
returns c = one_setup_answer
