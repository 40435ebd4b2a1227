use Rattle.log_picture.proofs.Adding.{add_up}
use Rattle.log_picture.proofs.counting.counts_law.Goals as goal

pub returns : goal.returns
returns c = add_up
