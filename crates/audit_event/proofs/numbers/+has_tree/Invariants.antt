use Rattle.std.proofs.Common.{◌≡◌, is_some, drop}
use Rattle.borrowed_json.specs.View.{items_view, members_view}
use Rattle.base_types.specs.Values.{of_items, of_members}
use Rattle.audit_event.proofs.numbers.+has_tree.Given as goal

abbrev pub invariant-all_have_trees-loop-member : goal.invariant-all_have_trees-loop-member
invariant-all_have_trees-loop-member l = is_some (of_members (members_view l.map.entries)) ≡ is_some (of_members (members_view l.member-iterator))

abbrev pub invariant-items_have_trees-loop-item : goal.invariant-items_have_trees-loop-item
invariant-items_have_trees-loop-item l = is_some (of_items (items_view l.item-items)) ≡ is_some (of_items (items_view (drop l.item-index l.item-items)))
