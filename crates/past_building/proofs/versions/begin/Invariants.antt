use Rattle.std.proofs.Common.{◌≡◌, map, take}
use Rattle.past_building.specs.Written.{snapshot_version}
use Rattle.past_building.proofs.versions.begin.Given as goal

abbrev pub invariant-loop-item : goal.invariant-loop-item
invariant-loop-item l = l.grown ≡ map (λ item. snapshot_version item.now) (take l.item-index l.order)
