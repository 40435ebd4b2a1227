use Rattle.log_sift.proofs.OneFacts.{one_sifting}
use Rattle.log_sift.proofs.law.one_sifting_law.Goals as goal

pub returns : goal.returns
returns c = one_sifting
