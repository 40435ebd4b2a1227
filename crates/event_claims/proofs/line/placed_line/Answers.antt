use Rattle.std.proofs.Common.{get_or, subst}
use Rattle.std.proofs.lemmas.Result.{IfOk-weaker}
use Rattle.history_model.proofs.Fits.{same_event}
use Rattle.write_groups.specs.Modelled.{event_of}
use Rattle.event_claims.specs.Lines.{IsLined}
use Rattle.event_claims.proofs.Logging.{logged}
use Rattle.event_claims.proofs.line.placed_line.Goals as goal

pub returns : goal.returns
returns g c = IfOk-weaker c.line_in.result _ _
    (λ found lined h e v fault known chosen.
    let item = get_or c.args.view.now.log.now c.args.event c.index-view-event.result in
    let here = logged h c.args.view.now.log.now c.args.event c.index-view-event.result v.events c.requires in
    subst (λ x. IsLined h c.args.choice.now c.args.event x found) (same_event h c.args.event (event_of item) e here known)
    (lined h v (record { here = here; fault = fault (event_of item) here }) chosen))
    c.line_in.ensures
