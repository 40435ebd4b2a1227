-- How the first file with whose objects a rule is broken is found by halves.
use Rattle.std.proofs.Common.{ℕ, ◌+◌, ◌≤◌, All, length, arith}
use Rattle.base_types.specs.Values.{InRange}
use Rattle.cluster_setup.specs.declared.assembling.Given.{Given}
use Rattle.cluster_setup.specs.declared.blaming.Broken.{Broken}
use Rattle.cluster_setup.specs.Answers.{Breaks, IsAccepted}
use Rattle.cluster_setup.specs.Shown.{AreAccepted, setup_up_to}
use Rattle.cluster_setup.proofs.AcceptedFewer.{accepted_fewer}

-- with the objects of how many files no rule is broken, and with those of which number one is
pub record IsBetween (given : Given) (accepted : ℕ) (first : Broken) : Type 0 where
  pub ordered : accepted ≤ first.number
  pub within : first.number ≤ length given.trees.now
  pub broken : Breaks (setup_up_to given first.number) first.rule
  pub before : AreAccepted given accepted

pub all_fewer : (given : Given) (number : ℕ) → InRange given.policy.now → All InRange given.trees.now → IsAccepted (setup_up_to given number) → AreAccepted given (number + 1)
all_fewer given number policy range accepted = λ fewer less. accepted_fewer given number fewer (omega arith) policy range accepted
