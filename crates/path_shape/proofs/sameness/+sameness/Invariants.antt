use Rattle.std.proofs.Common.{◌+◌, ◌-◌, length, take}
use Rattle.path_shape.proofs.SameLemmas.{SameKids, IsMerged}
use Rattle.path_shape.proofs.sameness.+sameness.Given as goal

abbrev pub invariant-are_same_items-loop-i : goal.invariant-are_same_items-loop-i
invariant-are_same_items-loop-i l = SameKids (take l.i l.x-inside.all.items) (take l.i l.y-inside.all.items)

abbrev pub invariant-are_same_members-merge : goal.invariant-are_same_members-merge
invariant-are_same_members-merge l = IsMerged l.x-inside.all.items l.y-inside.all.items l.i l.j

abbrev pub decreases-are_same_members-merge : goal.decreases-are_same_members-merge
decreases-are_same_members-merge l = (length l.x-inside.all.items - l.i) + (length l.y-inside.all.items - l.j)
