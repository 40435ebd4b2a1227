use Rattle.std.proofs.Common.{refl}
use Rattle.window_writes.proofs.writes.made_turn.Goals as goal

pub returns-clause-turn : goal.returns-clause-turn
returns-clause-turn c = record { made = refl; of_place = c.get.ensures.value; line = c.shown_line.ensures }
