use Rattle.std.proofs.Common.{◌≡◌, Some, map, take, slice_get}
use Rattle.node_pool.specs.Within.{looked_up, told}
use Rattle.node_pool.proofs.comparing.+equals.Given as goal

abbrev pub invariant-equal_items-loop-i : goal.invariant-equal_items-loop-i
invariant-equal_items-loop-i l = map (slice_get l.store.trees) (take l.i l.numbers.items) ≡ map Some (take l.i l.list-inside.all.items)

abbrev pub invariant-equal_members-loop-i : goal.invariant-equal_members-loop-i
invariant-equal_members-loop-i l = map (looked_up l.store.names l.store.trees) (take l.i l.numbers.items) ≡ map told (take l.i l.list-inside.all.items)
