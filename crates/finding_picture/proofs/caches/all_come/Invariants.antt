use Rattle.std.proofs.Common.{◌≡◌, filter, map, take}
use Rattle.finding_picture.specs.Caches.{has_come}
use Rattle.finding_picture.proofs.caches.all_come.Given as goal

-- those so far
abbrev pub invariant-loop-version : goal.invariant-loop-version
invariant-loop-version l = map (λ found. found.now) l.come.items ≡ filter (has_come l.low l.high) (take l.version-index l.version-items)
