use Rattle.std.proofs.Common.{◌≡◌, take}
use Rattle.std.specs.List.{flat_map}
use Rattle.cluster_setup.specs.Making.{objects_of}
use Rattle.cluster_setup.proofs.objects.objects_in.Given as goal

abbrev pub invariant-loop-list : goal.invariant-loop-list
invariant-loop-list l = l.objects.items ≡ flat_map (objects_of l.sources) (take l.list-index l.shown)
