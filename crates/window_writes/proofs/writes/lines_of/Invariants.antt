use Rattle.std.proofs.Common.{◌≡◌, filter_map, map, take}
use Rattle.window_writes.specs.Lines.{write_line}
use Rattle.window_writes.specs.Turns.{write_of_turn}
use Rattle.window_writes.proofs.writes.lines_of.Given as goal

abbrev pub invariant-loop-turn : goal.invariant-loop-turn
invariant-loop-turn l = l.lines ≡ map write_line (filter_map (write_of_turn l.context) (take l.turn-index l.turns))
