use Rattle.window_writes.proofs.TurnShowing.{by_event, by_first, not_snapshot}
use Rattle.window_writes.proofs.writes.shown_by.Goals as goal

pub returns-in-Event : goal.returns-in-Event
returns-in-Event c = by_event c.args.context.now c.requires.readable c.args.version.now c.requires.made c.in-Event.number c.in-Event.is

pub unreachable-requires : goal.unreachable-requires
unreachable-requires c = not_snapshot c.args.context.now c.requires.readable c.args.version.now c.requires.made c.in-Snapshot.is

pub returns-in-Unknown : goal.returns-in-Unknown
returns-in-Unknown c = by_first c.args.context.now c.requires.readable c.args.version.now c.requires.made c.first_writer.result c.in-Unknown.is c.first_writer.ensures
