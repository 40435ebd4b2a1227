use Rattle.history_model.proofs.OneList.{one_list_is}
use Rattle.history_model.proofs.explaining.one_list_law.Goals as goal

pub returns : goal.returns
returns c = one_list_is
