use Rattle.std.proofs.Common.{◌≡◌, ◌++◌, take}
use Rattle.json_patch.specs.Joined.{joined}
use Rattle.json_patch.proofs.drafting.+tree_of.Given as goal

abbrev pub invariant-tree_items-loop-part : goal.invariant-tree_items-loop-part
invariant-tree_items-loop-part l = l.all.items ≡ joined (take l.part-index l.part-items)

abbrev pub invariant-append_part-loop-item : goal.invariant-append_part-loop-item
invariant-append_part-loop-item l = l.all.items ≡ l.initial.all.items ++ take l.item-index l.item-items

abbrev pub invariant-tree_members-loop-part : goal.invariant-tree_members-loop-part
invariant-tree_members-loop-part l = l.all.items ≡ joined (take l.part-index l.part-items)

abbrev pub invariant-append_members-loop-member : goal.invariant-append_members-loop-member
invariant-append_members-loop-member l = l.all.items ≡ l.initial.all.items ++ take l.member-index l.member-items
