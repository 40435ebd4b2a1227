use Rattle.log_intake.proofs.CheckpointFacts.{few_read}
use Rattle.log_intake.proofs.setup.setup_of.Goals as goal

pub returns-in-Ok-clause-few : goal.returns-in-Ok-clause-few
returns-in-Ok-clause-few c = few_read _ _ c.in-Ok.ensures.setup

pub returns-in-Ok-clause-sound : goal.returns-in-Ok-clause-sound
returns-in-Ok-clause-sound c = c.in-Ok.ensures.sound c.requires
