use Rattle.std.proofs.Common.{Some, sym, ap, ◌∙◌}
use Rattle.log_verdict.proofs.FindingShown.{finding_is}
use Rattle.window_writes.proofs.TurnShowing.{event_here}
use Rattle.log_verdict.proofs.finding.unexplained.Goals as goal

pub returns : goal.returns
returns c =
    let e = event_here c.args.context.now c.args.event c.requires.known in
    finding_is c.args.context.now c.args.event c.args.reason e.0 c.in_ok-clone.field-0 c.line_of.result c.shown_window-window.result.low c.shown_window-window.result.high c.in_ok-writes_within.field-0
    e.1 (c.line_of.ensures e.0 e.1) (c.name_of.ensures ∙ ap Some (sym c.in_ok-clone.ensures.cases)) (c.shown_window-window.ensures.low e.0 e.1) (c.shown_window-window.ensures.high e.0 e.1) c.in_ok-writes_within.ensures
