use Rattle.std.proofs.Common.{◌≡◌, take}
use Rattle.base_types.proofs.json.equality.+equal.Given as goal

abbrev pub invariant-equal_items-loop-i : goal.invariant-equal_items-loop-i
invariant-equal_items-loop-i l = take l.i l.a-inside.all.items ≡ take l.i l.b-inside.all.items

abbrev pub invariant-equal_members-loop-i : goal.invariant-equal_members-loop-i
invariant-equal_members-loop-i l = take l.i l.a-inside.all.items ≡ take l.i l.b-inside.all.items
