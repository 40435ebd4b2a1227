-- Reasons, where want of memory tells nothing.
use Rattle.cluster_setup.specs.declared.fault.SetupRefusal.{SetupRefusal}
use Rattle.cluster_setup.specs.declared.fault.SetupRefusal.TheVariants.{Time, Policy, Empty, Rule, File, OutOfMemory}
use Rattle.cluster_setup.specs.Answers.{OrMemory}

pub or_memory : (Is : SetupRefusal → Type 0) (refusal : SetupRefusal) → Is refusal → OrMemory Is refusal
or_memory Is Time is = is
or_memory Is Policy is = is
or_memory Is Empty is = is
or_memory Is (Rule rule) is = is
or_memory Is (File number code) is = is
or_memory Is OutOfMemory is = tt

pub weaker : (Is Was : SetupRefusal → Type 0) → ((refusal : SetupRefusal) → Was refusal → Is refusal) → (refusal : SetupRefusal) → OrMemory Was refusal → OrMemory Is refusal
weaker Is Was gives Time was = gives Time was
weaker Is Was gives Policy was = gives Policy was
weaker Is Was gives Empty was = gives Empty was
weaker Is Was gives (Rule rule) was = gives (Rule rule) was
weaker Is Was gives (File number code) was = gives (File number code) was
weaker Is Was gives OutOfMemory was = tt
