use Rattle.log_moments.proofs.OneAnswer.{one_strict_answer}
use Rattle.log_moments.proofs.answer.one_strict_answer_law.Goals as goal

pub returns : goal.returns
returns c = one_strict_answer
