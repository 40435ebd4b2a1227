use Rattle.std.proofs.Common.{◌≡◌, ◌++◌, length}
use Rattle.base_types.specs.Meaning.{kids_of, fields_of}
use Rattle.base_types.specs.Size.{nodes, kids_nodes, fields_nodes}
use Rattle.packed_tree.proofs.building.+build.Given as goal

abbrev pub decreases-build : goal.decreases-build
decreases-build l = nodes l.value.now

abbrev pub decreases-build_items : goal.decreases-build_items
decreases-build_items l = kids_nodes (kids_of l.list)

abbrev pub decreases-build_members : goal.decreases-build_members
decreases-build_members l = fields_nodes (fields_of l.list)

abbrev pub invariant-build_items-items : goal.invariant-build_items-items
invariant-build_items-items l = l.initial.rest ≡ l.all.items ++ l.rest

abbrev pub decreases-build_items-items : goal.decreases-build_items-items
decreases-build_items-items l = length l.rest

abbrev pub invariant-build_members-members : goal.invariant-build_members-members
invariant-build_members-members l = l.initial.rest ≡ l.all.items ++ l.rest

abbrev pub decreases-build_members-members : goal.decreases-build_members-members
decreases-build_members-members l = length l.rest
