use Rattle.std.proofs.Common.{◌≡◌, map, take}
use Rattle.log_picture.proofs.spreading.each_of.Given as goal

-- those so far
abbrev pub invariant-loop-item : goal.invariant-loop-item
invariant-loop-item g l = map (λ item. item.now) l.all.items ≡ take l.item-index l.items
