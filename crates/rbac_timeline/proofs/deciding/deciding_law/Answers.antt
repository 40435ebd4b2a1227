use Rattle.rbac_timeline.proofs.Possible.{is_possible-Decides}
use Rattle.rbac_timeline.proofs.deciding.deciding_law.Goals as goal

pub returns : goal.returns
returns c = λ known places who attrs decision sound. is_possible-Decides known sound places who attrs decision
