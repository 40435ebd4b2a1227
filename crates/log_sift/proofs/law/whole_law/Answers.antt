use Rattle.log_sift.proofs.WholeFacts.{nothing_left}
use Rattle.log_sift.proofs.law.whole_law.Goals as goal

pub returns : goal.returns
returns c = nothing_left
