use Rattle.std.proofs.Common.{◌≡◌, take}
use Rattle.std.specs.List.{flat_map}
use Rattle.cluster_setup.specs.Making.{entries_of}
use Rattle.cluster_setup.proofs.entries.entries_in.Given as goal

abbrev pub invariant-loop-list : goal.invariant-loop-list
invariant-loop-list l = l.entries.items ≡ flat_map (entries_of l.sources) (take l.list-index l.trees)
