use Rattle.window_writes.proofs.TurnShowing.{shown_known, shown_line}
use Rattle.window_writes.proofs.writes.shown_line.Goals as goal

pub line_of-requires : goal.line_of-requires
line_of-requires c = shown_known c.args.context.now c.requires.readable c.args.version.now c.requires.made c.shown_by.result c.shown_by.ensures

pub returns : goal.returns
returns c = shown_line c.args.context.now c.requires.readable c.args.version.now c.requires.made c.shown_by.result c.line_of.result c.shown_by.ensures c.line_of.ensures
