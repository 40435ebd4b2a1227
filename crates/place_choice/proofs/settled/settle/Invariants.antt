use Rattle.std.proofs.Common.{take}
use Rattle.place_choice.proofs.Leaving.{LeavesExactly}
use Rattle.place_choice.proofs.settled.settle.Given as goal

-- what is left has just the choices that meet the bounds of the events so far
abbrev pub invariant-loop-event : goal.invariant-loop-event
invariant-loop-event l = LeavesExactly l.ranges l.left.items l.claims (take l.event-index l.order)
