-- An object without members has its names in order.
use Rattle.std.proofs.Common.{[]}
use Rattle.std.specs.List.Sorted.{IsStrictlySortedBy}
use Rattle.base_types.specs.Names.{AreSorted}

pub no_members_sorted : AreSorted []
unfolding IsStrictlySortedBy
no_members_sorted = tt
