use Rattle.std.proofs.Common.{◌+◌, ◌*◌, length}
use Rattle.base_types.specs.Meaning.{kids_of, fields_of}
use Rattle.base_types.specs.Size.{nodes, kids_nodes, fields_nodes}
use Rattle.packed_tree.specs.Showing.{meaning_of}
use Rattle.node_pool.proofs.Cursors.{ItemsRead, MembersRead}
use Rattle.node_pool.proofs.interning.+add.Given as goal

abbrev pub decreases-add : goal.decreases-add
decreases-add l = 2 * nodes l.value.now + 1

abbrev pub decreases-level_of : goal.decreases-level_of
decreases-level_of l = 2 * nodes (meaning_of l.shown)

abbrev pub decreases-add_items : goal.decreases-add_items
decreases-add_items l = 2 * kids_nodes (kids_of l.list) + 2

abbrev pub decreases-add_members : goal.decreases-add_members
decreases-add_members l = 2 * fields_nodes (fields_of l.list) + 2

abbrev pub invariant-add_items-items : goal.invariant-add_items-items
invariant-add_items-items l = ItemsRead l.initial.store l.store l.initial.rest l.numbers.items l.rest

abbrev pub decreases-add_items-items : goal.decreases-add_items-items
decreases-add_items-items l = length l.rest

abbrev pub invariant-add_members-members : goal.invariant-add_members-members
invariant-add_members-members l = MembersRead l.initial.store l.store l.initial.rest l.numbers.items l.rest

abbrev pub decreases-add_members-members : goal.decreases-add_members-members
decreases-add_members-members l = length l.rest
