use Rattle.std.proofs.Common.{◌≡◌, drop}
use Rattle.std.specs.List.{list_all}
use Rattle.setup_file.specs.Resources.{has_shape}
use Rattle.setup_file.proofs.resources.have_shapes.Given as goal

abbrev pub invariant-loop-value : goal.invariant-loop-value
invariant-loop-value l = list_all has_shape l.values ≡ list_all has_shape (drop l.value-index l.values)
