use Rattle.std.proofs.Common.{refl}
use Rattle.window_writes.proofs.TurnShowing.{line_there}
use Rattle.window_writes.proofs.writes.removed_turn.Goals as goal

pub returns-clause-turn : goal.returns-clause-turn
returns-clause-turn c = record {
  removed = refl;
  of_place = refl;
  of_line = line_there c.args.context.now c.args.removal.now.range.event c.line_of.result c.requires c.line_of.ensures;
}
