-- With which files' objects a setup breaks a rule first, where the code says both together.
use Rattle.std.specs.Prelude.{◌≤◌, length}
use Rattle.cluster_setup.specs.declared.assembling.Given.{Given}
use Rattle.cluster_setup.specs.declared.blaming.Broken.{Broken}
use Rattle.cluster_setup.specs.Answers.{Breaks}
use Rattle.cluster_setup.specs.Shown.{AreAccepted, setup_up_to}

-- with the objects of as many files it breaks the rule, and with those of fewer none
pub record IsLeastBroken (given : Given) (first : Broken) : Type 0 where
  pub within : first.number ≤ length given.trees.now
  pub broken : Breaks (setup_up_to given first.number) first.rule
  pub before : AreAccepted given first.number
