use Rattle.std.proofs.Common.{rules}
use Rattle.merge_patch.proofs.Steps.{no_members_sorted}
use Rattle.merge_patch.proofs.merging.members_of.Goals as goal

pub returns-in_default : goal.returns-in_default
returns-in_default c = record { members = search rules; sorted = no_members_sorted }

pub returns-in-None-clause-sorted : goal.returns-in-None-clause-sorted
returns-in-None-clause-sorted c = no_members_sorted
