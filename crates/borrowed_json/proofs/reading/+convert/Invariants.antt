use Rattle.std.proofs.Common.{◌≡◌, ◌≤◌, ◌+◌, ◌*◌, option_map}
use Rattle.json.specs.Tree.{depth, items_depth, members_depth}
use Rattle.json.specs.Value.{items_view as read_items, members_view as read_members, value_view}
use Rattle.serde_json.specs.Data.{no_members}
use Rattle.serde_json.specs.Read.{of_items, of_members}
use Rattle.borrowed_json.specs.View.{members_view}
use Rattle.borrowed_json.proofs.Conversions.{behind}
use Rattle.borrowed_json.proofs.reading.+convert.Given as goal

abbrev pub decreases-convert : goal.decreases-convert
decreases-convert l = 2 * depth (value_view l.value)

abbrev pub decreases-convert_items : goal.decreases-convert_items
decreases-convert_items l = 2 * items_depth (read_items l.list.items) + 1

abbrev pub decreases-convert_members : goal.decreases-convert_members
decreases-convert_members l = 2 * members_depth (read_members l.list.items) + 1

abbrev pub invariant-convert_items-loop-item : goal.invariant-convert_items-loop-item
invariant-convert_items-loop-item l = record {
  can_next : (goal.iterator-convert_items-loop-item).can_next l.item-iterator;
  is_finite : (goal.iterator-convert_items-loop-item).is_finite l.item-iterator;
  shallow : items_depth (read_items l.item-iterator.rest.items) ≤ items_depth (read_items l.initial.item-iterator.rest.items);
  reads : of_items (read_items l.initial.item-iterator.rest.items) ≡ option_map (behind l.made.items) (of_items (read_items l.item-iterator.rest.items));
}

abbrev pub invariant-convert_members-loop-name : goal.invariant-convert_members-loop-name
invariant-convert_members-loop-name l = record {
  can_next : (goal.iterator-convert_members-loop-name).can_next l.name-iterator;
  is_finite : (goal.iterator-convert_members-loop-name).is_finite l.name-iterator;
  shallow : members_depth (read_members l.name-iterator.rest.items) ≤ members_depth (read_members l.initial.name-iterator.rest.items);
  reads : of_members (read_members l.initial.name-iterator.rest.items) no_members ≡ of_members (read_members l.name-iterator.rest.items) (members_view l.made.entries);
}
