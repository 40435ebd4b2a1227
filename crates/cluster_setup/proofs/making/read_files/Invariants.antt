use Rattle.std.proofs.Common.{take}
use Rattle.std.specs.List.{All}
use Rattle.base_types.specs.Values.{InRange}
use Rattle.cluster_setup.specs.Refusing.{AreTrees}
use Rattle.cluster_setup.proofs.making.read_files.Given as goal

abbrev pub invariant-loop-number : goal.invariant-loop-number
invariant-loop-number l = record {
  read : AreTrees (take l.number l.files) l.trees.items;
  range : All InRange l.trees.items;
}
