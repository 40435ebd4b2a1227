use Rattle.std.proofs.Common.{take}
use Rattle.past_building.specs.Removals.{AreFirstRemovals}
use Rattle.past_building.proofs.removed.first_removals.Given as goal

abbrev pub invariant-loop-number : goal.invariant-loop-number
invariant-loop-number l = AreFirstRemovals l.events (take l.number-index l.order) l.removed
