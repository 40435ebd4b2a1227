-- Threads may share a tree.
use Rattle.std.proofs.Crossing as owned
use Rattle.base_types.proofs.json.tree.Member.TheLaws.TheKnot as knot
use Rattle.base_types.specs.contracts.json.tree.Tree as tree
use denote.Param.Send.{IsSync, sendable}

pub tree_shared : IsSync tree.the_row
tree_shared = search (knot.sync-Tree, sendable, owned.crosses) depth 60 fits 20000
