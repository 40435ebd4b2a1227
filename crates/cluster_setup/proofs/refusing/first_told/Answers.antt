use Rattle.std.proofs.Common.{◌∙◌}
use Rattle.cluster_setup.proofs.ListedFacts.{none_listed}
use Rattle.cluster_setup.proofs.refusing.first_told.Goals as goal

pub first_among-requires-clause-told : goal.first_among-requires-clause-told
first_among-requires-clause-told c = c.in_ok-sources.ensures ∙ c.requires

pub first_among-requires-clause-none : goal.first_among-requires-clause-none
first_among-requires-clause-none c = none_listed c.new-behind.result c.new-behind.ensures.empty
