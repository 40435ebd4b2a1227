use Rattle.log_intake.proofs.StepAnswers.{line_broken, line_stopped, line_whole}
use Rattle.log_intake.proofs.keeping.keep_line.Goals as goal

pub returns-in-Err : goal.returns-in-Err
returns-in-Err c = line_stopped c.args.line.now c.args.place c.args.decoded c.args.seen.now c.keep_events.new.seen c.in-Err.stop c.requires.decoded c.requires.next.short c.in-Err.ensures

pub returns-in-None : goal.returns-in-None
returns-in-None c = line_whole _ c.args.line.now c.args.place c.args.decoded c.args.seen.now c.keep_events.new.seen c.requires.decoded c.requires.next.short c.in_default.ensures c.in-None.is

pub returns-in-Some : goal.returns-in-Some
returns-in-Some c = line_broken _ c.args.line.now c.args.place c.args.decoded c.args.seen.now c.keep_events.new.seen c.in-Some.fault c.requires.decoded c.requires.next.short c.in_default.ensures c.in-Some.is
