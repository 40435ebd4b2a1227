use Rattle.window_writes.specs.Turns.{AreMadeTurns}
use Rattle.window_writes.proofs.writes.made_within.Given as goal

abbrev pub invariant-loop-position : goal.invariant-loop-position
invariant-loop-position l = AreMadeTurns l.context l.window.low l.window.high l.position l.turns.items
