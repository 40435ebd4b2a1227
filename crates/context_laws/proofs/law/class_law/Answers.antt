use Rattle.answer_class.proofs.Tabled.{tabled}
use Rattle.context_laws.proofs.law.class_law.Goals as goal

pub returns : goal.returns
returns c = tabled
