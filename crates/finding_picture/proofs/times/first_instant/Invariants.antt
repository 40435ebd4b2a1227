use Rattle.std.proofs.Common.{◌≡◌, take}
use Rattle.std.specs.List.{fold}
use Rattle.finding_picture.specs.Times.{earlier, instant}
use Rattle.finding_picture.proofs.times.first_instant.Given as goal

abbrev pub invariant-loop-write : goal.invariant-loop-write
invariant-loop-write l = l.low ≡ fold (earlier l.context.events) (instant l.event.received) (take l.write-index l.write-items)
