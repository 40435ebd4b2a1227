use Rattle.write_groups.specs.Modelled.{event_of}
use Rattle.event_claims.proofs.Deciding.{least_decided, none_decided}
use Rattle.event_claims.proofs.Options.{if_some, if_none}
use Rattle.event_claims.proofs.decided.places_of.Goals as goal

pub returns-clause-some : goal.returns-clause-some
returns-clause-some g c = if_some c.find.result _ _
    (λ places least h v known. least_decided h c.args.number (event_of c.args.event.now) (g.D.Decisions.decides c.args.view.now.decisions.now c.args.number) c.decision_window_of-window.result.low c.decision_window_of-window.result.high
    (v.decisions c.args.number) (c.decision_window_of-window.ensures.low h c.args.number v known) (c.decision_window_of-window.ensures.high h v) places least)
    c.find.ensures.some

pub returns-clause-none : goal.returns-clause-none
returns-clause-none g c = if_none c.find.result _ _
    (λ none h v known. none_decided h c.args.number (event_of c.args.event.now) (g.D.Decisions.decides c.args.view.now.decisions.now c.args.number) c.decision_window_of-window.result.low c.decision_window_of-window.result.high
    (v.decisions c.args.number) (c.decision_window_of-window.ensures.low h c.args.number v known) (c.decision_window_of-window.ensures.high h v) none)
    c.find.ensures.none
