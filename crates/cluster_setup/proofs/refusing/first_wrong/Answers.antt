use Rattle.std.proofs.Common.{◌∙◌}
use Rattle.cluster_setup.proofs.refusing.first_wrong.Goals as goal

pub first_told-requires : goal.first_told-requires
first_told-requires c = c.as_slice.ensures.value ∙ c.in_ok-documents.ensures
