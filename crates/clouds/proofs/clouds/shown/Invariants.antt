use Rattle.std.proofs.Common.{◌≡◌, map, take}
use Rattle.clouds.proofs.clouds.shown.Given as goal

abbrev pub invariant-loop-item : goal.invariant-loop-item
invariant-loop-item g l = map (λ s. s.value) l.shown.items ≡ take l.item-index l.items
