use Rattle.std.proofs.Common.{◌+◌, ◌<◌, arith}
use Rattle.audit_event.proofs.KeepingLemmas.{lines_below}
use Rattle.worked_events.proofs.events_seen.keep_at.Goals as goal

pub returns-clause-lines : goal.returns-clause-lines
returns-clause-lines g c =
    let line = c.event_at-event.ensures in
    let below : c.event_at-event.result.line < c.args.number + 1 = omega (arith, line) in
    lines_below (c.args.number + 1) _ c.event_at-event.result c.keep.result c.keep.new.self c.keep.ensures below
    (λ k d h. let less = c.requires.lines k d h in omega arith)
