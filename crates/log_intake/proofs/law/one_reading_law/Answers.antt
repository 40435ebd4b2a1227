use Rattle.log_intake.proofs.OneReadingFacts.{one_reading}
use Rattle.log_intake.proofs.law.one_reading_law.Goals as goal

pub returns : goal.returns
returns c = one_reading
