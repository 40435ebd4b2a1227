use Rattle.std.proofs.Common.{length, ap, ◌∙◌, arith}
use Rattle.window_writes.proofs.TurnLines.{removal_there, version_there}
use Rattle.window_writes.proofs.writes.line_of.Goals as goal

pub bounds-removals-turn : goal.bounds-removals-turn
bounds-removals-turn c = let within = removal_there c.args.context.now c.args.turn.now c.if-turn.true c.requires in omega (arith, within, ap length (c.removals-removals.ensures.removals ∙ c.past.ensures.removals))

pub bounds-versions-turn : goal.bounds-versions-turn
bounds-versions-turn c = let within = version_there c.args.context.now c.args.turn.now c.if-turn.false c.requires in omega (arith, within, ap length c.versions-versions.ensures.versions)
