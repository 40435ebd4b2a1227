use Rattle.log_sift.proofs.LongFacts.{kept_is_taken}
use Rattle.log_sift.proofs.law.taken_law.Goals as goal

pub returns : goal.returns
returns c = kept_is_taken
