use Rattle.std.proofs.Common.{◌≡◌, ◌+◌, ◌*◌, Some, map, take, slice_get}
use Rattle.node_pool.specs.Within.{looked_up, told}
use Rattle.node_pool.proofs.rebuilding.+rebuild.Given as goal

abbrev pub decreases-rebuild : goal.decreases-rebuild
decreases-rebuild l = 2 * l.number + 1

abbrev pub decreases-rebuild_items : goal.decreases-rebuild_items
decreases-rebuild_items l = 2 * l.bound

abbrev pub decreases-rebuild_members : goal.decreases-rebuild_members
decreases-rebuild_members l = 2 * l.bound

abbrev pub invariant-rebuild_items-loop-number : goal.invariant-rebuild_items-loop-number
invariant-rebuild_items-loop-number l = map (slice_get l.store.trees) (take l.number-index l.number-items) ≡ map Some l.all.items

abbrev pub invariant-rebuild_members-loop-name : goal.invariant-rebuild_members-loop-name
invariant-rebuild_members-loop-name l = map (looked_up l.store.names l.store.trees) (take l.name-index l.name-items) ≡ map told l.all.items
