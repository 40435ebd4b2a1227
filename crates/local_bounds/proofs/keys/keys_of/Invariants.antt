use Rattle.std.proofs.Common.{◌≡◌, map, take}
use Rattle.object_past.specs.Among.{keys_at}
use Rattle.local_bounds.proofs.keys.keys_of.Given as goal

abbrev pub invariant-loop-item : goal.invariant-loop-item
invariant-loop-item l = keys_at l.keys.items ≡ map (λ item. item.key) (take l.item-index l.items)
