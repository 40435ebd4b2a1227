use Rattle.std.proofs.Common.{◌≡◌, ◌++◌, take}
use Rattle.json_patch.specs.Joined.{joined}
use Rattle.json_patch.proofs.sameness.+equal.Given as goal

abbrev pub invariant-equal_items-loop-part : goal.invariant-equal_items-loop-part
invariant-equal_items-loop-part l = joined (take l.part-index l.part-items) ++ l.rest ≡ l.b

abbrev pub invariant-equal_part-loop-i : goal.invariant-equal_part-loop-i
invariant-equal_part-loop-i l = take l.i l.a-inside.all.items ≡ take l.i l.b

abbrev pub invariant-equal_members-loop-part : goal.invariant-equal_members-loop-part
invariant-equal_members-loop-part l = joined (take l.part-index l.part-items) ++ l.rest ≡ l.b

abbrev pub invariant-equal_member_part-loop-i : goal.invariant-equal_member_part-loop-i
invariant-equal_member_part-loop-i l = take l.i l.a-inside.all.items ≡ take l.i l.b
