use Rattle.std.proofs.Common.{◌≡◌, take}
use Rattle.std.specs.Prelude.{map}
use Rattle.cluster_setup.specs.Parts.{shape_tree}
use Rattle.cluster_setup.proofs.shapes.shape_list.Given as goal

abbrev pub invariant-loop-shape : goal.invariant-loop-shape
invariant-loop-shape l = l.all.items ≡ map shape_tree (take l.shape-index l.shapes)
