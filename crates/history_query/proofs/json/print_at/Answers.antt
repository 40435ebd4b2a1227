use Rattle.base_types.specs.Values.{InRange}
use Rattle.history_model.proofs.Members.{all_at, at_in}
use Rattle.history_query.proofs.json.print_at.Goals as goal

pub print-requires : goal.print-requires
print-requires c = all_at InRange c.args.pool.now.trees c.in_ok-tree.tree c.requires.numbers (at_in c.args.pool.now.trees c.args.node.0 c.in_ok-tree.tree c.in_ok-tree.ensures)
