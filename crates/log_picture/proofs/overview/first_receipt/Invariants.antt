use Rattle.std.proofs.Common.{◌≡◌, take}
use Rattle.std.specs.List.{fold}
use Rattle.log_picture.specs.Overview.{earlier, last_receipt}
use Rattle.log_picture.proofs.overview.first_receipt.Given as goal

abbrev pub invariant-loop-event : goal.invariant-loop-event
invariant-loop-event l = l.first ≡ fold earlier (last_receipt l.events) (take l.event-index l.events)
