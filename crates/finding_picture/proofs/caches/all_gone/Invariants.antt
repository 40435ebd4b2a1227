use Rattle.std.proofs.Common.{◌≡◌, filter, map, take}
use Rattle.finding_picture.specs.Caches.{may_have_gone}
use Rattle.finding_picture.proofs.caches.all_gone.Given as goal

-- those so far
abbrev pub invariant-loop-removal : goal.invariant-loop-removal
invariant-loop-removal l = map (λ found. found.now) l.gone.items ≡ filter (may_have_gone l.low l.high) (take l.removal-index l.removal-items)
