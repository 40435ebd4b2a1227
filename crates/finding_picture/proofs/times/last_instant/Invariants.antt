use Rattle.std.proofs.Common.{◌≡◌, take}
use Rattle.std.specs.List.{fold}
use Rattle.finding_picture.specs.Times.{later, instant}
use Rattle.finding_picture.proofs.times.last_instant.Given as goal

abbrev pub invariant-loop-write : goal.invariant-loop-write
invariant-loop-write l = l.high ≡ fold (later l.context.events) (instant l.event.staged) (take l.write-index l.write-items)
