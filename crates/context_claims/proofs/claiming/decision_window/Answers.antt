use Rattle.std.proofs.Common.{◌<◌, ◌∙◌, get_or, length, subst, sym, ap}
use Rattle.event_claims.proofs.Logging.{logged}
use Rattle.history_model.proofs.Fits.{same_event}
use Rattle.history_model.specs.Windows.{decision_low, decision_high}
use Rattle.log_context.specs.Histories.{history_of}
use Rattle.write_groups.specs.Modelled.{event_of}
use Rattle.context_claims.proofs.claiming.decision_window.Goals as goal

pub returns-clause-low : goal.returns-clause-low
returns-clause-low c = λ e known.
    let h = history_of c.args.context.now in
    let v = c.view_of-view.ensures.view in
    let log = c.view_of-view.result.log.now in
    let inside : c.args.event < length log = subst (λ xs. c.args.event < length xs) (sym c.view_of-view.ensures.log) c.requires in
    let item = get_or log c.args.event c.index-view-event.result in
    let here = logged h log c.args.event c.index-view-event.result v.events inside in
    c.decision_window_of.ensures.low h c.args.event v here ∙ ap (decision_low h) (same_event h c.args.event (event_of item) e here known)

pub returns-clause-high : goal.returns-clause-high
returns-clause-high c = λ e known.
    let h = history_of c.args.context.now in
    let v = c.view_of-view.ensures.view in
    let log = c.view_of-view.result.log.now in
    let inside : c.args.event < length log = subst (λ xs. c.args.event < length xs) (sym c.view_of-view.ensures.log) c.requires in
    let item = get_or log c.args.event c.index-view-event.result in
    let here = logged h log c.args.event c.index-view-event.result v.events inside in
    c.decision_window_of.ensures.high h v ∙ ap (decision_high h) (same_event h c.args.event (event_of item) e here known)
