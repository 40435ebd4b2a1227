use Rattle.std.proofs.Common.{◌≡◌, take}
use Rattle.std.specs.List.{fold}
use Rattle.log_picture.specs.Overview.{later}
use Rattle.log_picture.proofs.overview.last_receipt.Given as goal

abbrev pub invariant-loop-event : goal.invariant-loop-event
invariant-loop-event l = l.last ≡ fold later 0 (take l.event-index l.events)
