use Rattle.std.proofs.Common.{◌≡◌, take}
use Rattle.cluster_setup.proofs.documents.documents_of.Given as goal

abbrev pub invariant-loop-tree : goal.invariant-loop-tree
invariant-loop-tree l = l.documents.items ≡ take l.tree-index l.trees
