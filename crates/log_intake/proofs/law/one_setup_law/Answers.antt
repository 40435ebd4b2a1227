use Rattle.log_intake.proofs.OneSetupFacts.{one_setup}
use Rattle.log_intake.proofs.law.one_setup_law.Goals as goal

pub returns : goal.returns
returns c = one_setup
