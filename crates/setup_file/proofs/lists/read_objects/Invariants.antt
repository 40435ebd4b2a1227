use Rattle.std.proofs.Common.{◌≡◌, ◌++◌, drop}
use Rattle.std.specs.Prelude.{option_map}
use Rattle.setup_file.specs.Lists.{objects_in}
use Rattle.setup_file.proofs.lists.read_objects.Given as goal

abbrev pub invariant-loop-value : goal.invariant-loop-value
invariant-loop-value l = objects_in l.tracked l.name l.namespace l.values ≡ option_map (λ rest. l.objects ++ rest) (objects_in l.tracked l.name l.namespace (drop l.value-index l.values))
