use Rattle.std.proofs.Common.{◌≡◌, take}
use Rattle.json_patch.specs.Joined.{joined}
use Rattle.json_patch.proofs.drafting.+draft_of.Given as goal

abbrev pub invariant-draft_items-loop-item : goal.invariant-draft_items-loop-item
invariant-draft_items-loop-item l = l.made ≡ take l.item-index l.item-items

abbrev pub invariant-draft_members-loop-member : goal.invariant-draft_members-loop-member
invariant-draft_members-loop-member l = joined l.parts.items ≡ take l.member-index l.member-items
