use Rattle.window_writes.specs.Turns.{AreRemovedTurns}
use Rattle.window_writes.proofs.writes.removed_within.Given as goal

abbrev pub invariant-loop-position : goal.invariant-loop-position
invariant-loop-position l = AreRemovedTurns l.context l.window.low l.window.high l.position l.turns.items
