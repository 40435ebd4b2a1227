use Rattle.std.proofs.Common.{◌≡◌, ◌++◌, take}
use Rattle.std.specs.Prelude.{map}
use Rattle.cluster_setup.specs.Making.{object_entry}
use Rattle.cluster_setup.proofs.objects.add_items.Given as goal

abbrev pub invariant-loop-item : goal.invariant-loop-item
invariant-loop-item l = l.objects.items ≡ l.initial.objects.items ++ map (object_entry l.group l.name l.kind l.version) (take l.item-index l.list)
