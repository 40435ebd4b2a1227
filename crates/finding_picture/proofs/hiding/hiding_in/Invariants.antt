use Rattle.std.proofs.Common.{◌≡◌, filter, map, take}
use Rattle.finding_picture.specs.Hiding.{hides}
use Rattle.finding_picture.proofs.hiding.hiding_in.Given as goal

-- those so far
abbrev pub invariant-loop-event : goal.invariant-loop-event
invariant-loop-event l = map (λ found. found.now) l.writes.items ≡ filter (hides l.key) (take l.event-index l.log)
