use Rattle.past_building.proofs.Finding.{AreFoundBehind}
use Rattle.past_building.proofs.removals.find_removals.Given as goal

abbrev pub invariant-loop-i : goal.invariant-loop-i
invariant-loop-i l = AreFoundBehind l.log.windows.now l.log.events.now l.log.removed.now l.versions l.i l.removals.items
