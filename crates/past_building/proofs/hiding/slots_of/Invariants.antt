use Rattle.std.proofs.Common.{◌≡◌, ◌++◌, map, take}
use Rattle.past_building.specs.Hidden.{group_slot, item_slot}
use Rattle.past_building.proofs.hiding.slots_of.Given as goal

abbrev pub invariant-loop-item : goal.invariant-loop-item
invariant-loop-item l = l.slots.items ≡ map item_slot (take l.item-index l.snapshot)

abbrev pub invariant-loop-group : goal.invariant-loop-group
invariant-loop-group l = l.slots.items ≡ map item_slot l.snapshot ++ map group_slot (take l.group-index l.groups)
