use Rattle.past_building.specs.Following.{AreNextsBelow}
use Rattle.past_building.proofs.removals.nexts_of.Given as goal

abbrev pub invariant-loop-position : goal.invariant-loop-position
invariant-loop-position l = AreNextsBelow l.earlier l.position l.nexts.items
