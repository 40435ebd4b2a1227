use Rattle.log_intake.proofs.StepAnswers.{differing_refused, fresh_keeps, repeat_keeps}
use Rattle.log_intake.proofs.keeping.keep_event.Goals as goal

pub returns-in-Ok-Repeat : goal.returns-in-Ok-Repeat
returns-in-Ok-Repeat c =
    let keeps = rw c.in-Ok-Repeat.field-0-is at c.in-Ok-Repeat.ensures in
    repeat_keeps _ c.args.number c.args.seen.now c.keep.new.self c.args.event c.requires.before keeps.0 keeps.1

pub returns-in-Ok-Fresh : goal.returns-in-Ok-Fresh
returns-in-Ok-Fresh c =
    let keeps = rw c.in-Ok-Fresh.field-0-is at c.in-Ok-Fresh.ensures in
    fresh_keeps c.args.number c.count.result c.args.seen.now c.keep.new.self c.args.event c.within_limit.result c.requires.before c.requires.sound c.requires.from keeps.0 keeps.1 c.count.ensures c.within_limit.ensures.ok c.within_limit.ensures.err

pub returns-in-Err-Differs : goal.returns-in-Err-Differs
returns-in-Err-Differs c =
    let keeps = rw c.in-Err-Differs.field-0-is at c.in-Err-Differs.ensures in
    differing_refused c.args.number _ c.args.seen.now c.keep.new.self c.args.event keeps.0
