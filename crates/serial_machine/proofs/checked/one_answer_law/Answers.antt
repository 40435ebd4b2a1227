use Rattle.serial_machine.proofs.OneAnswer.{one_answer_is}
use Rattle.serial_machine.proofs.checked.one_answer_law.Goals as goal

pub returns : goal.returns
returns c = one_answer_is
