-- The setup of what the code hands on together, with the objects of some files, and why it is refused.
use Rattle.std.specs.Prelude.{◌<◌, ℕ, List, take}
use Rattle.base_types.specs.Meaning.{Meaning}
use Rattle.cluster_setup.specs.declared.assembling.Given.{Given}
use Rattle.cluster_setup.specs.declared.fault.SetupRefusal.{SetupRefusal}
use Rattle.cluster_setup.specs.Answers.{IsAccepted, IsBlamed}
use Rattle.cluster_setup.specs.Making.{setup_tree}

-- the setup with the objects of these files
abbrev pub setup_from : Given → List Meaning → Meaning
setup_from given shown = setup_tree given.revision.now given.time.now given.policy.now given.trees.now shown given.authorize

-- with the objects of this many files at the front
abbrev pub setup_up_to : Given → ℕ → Meaning
setup_up_to given number = setup_from given (take number given.trees.now)

-- with the objects of each smaller number of files it is accepted
abbrev pub AreAccepted : Given → ℕ → Type 0
AreAccepted given number = (fewer : ℕ) → fewer < number → IsAccepted (setup_up_to given fewer)

-- the refusal names the first file with whose objects it breaks a rule
abbrev pub IsBlamedFor : Given → SetupRefusal → Type 0
IsBlamedFor given = IsBlamed given.revision.now given.time.now given.policy.now given.trees.now given.authorize
