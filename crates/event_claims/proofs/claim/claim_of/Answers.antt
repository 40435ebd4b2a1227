use Rattle.std.proofs.Common.{get_or, subst}
use Rattle.std.proofs.lemmas.Result.{IfOk-weaker}
use Rattle.history_model.proofs.Fits.{same_event}
use Rattle.history_model.specs.Exact.{IsExactClaim}
use Rattle.write_groups.specs.Modelled.{event_of}
use Rattle.event_claims.proofs.Answering.{bounds_within}
use Rattle.event_claims.proofs.Logging.{logged}
use Rattle.event_claims.proofs.claim.claim_of.Goals as goal

pub returns-clause-exact : goal.returns-clause-exact
returns-clause-exact g c = IfOk-weaker c.claim_in.result _ _
    (λ claim exact h e v fault known.
    let item = get_or c.args.view.now.log.now c.args.event c.index-view-event.result in
    let here = logged h c.args.view.now.log.now c.args.event c.index-view-event.result v.events c.requires in
    subst (λ x. IsExactClaim h c.args.event x claim) (same_event h c.args.event (event_of item) e here known) (exact h v (record { here = here; fault = fault (event_of item) here })))
    c.claim_in.ensures.exact

pub returns-clause-deciding : goal.returns-clause-deciding
returns-clause-deciding g c = IfOk-weaker c.claim_in.result _ _
    (λ claim deciding h v fault.
    let item = get_or c.args.view.now.log.now c.args.event c.index-view-event.result in
    let here = logged h c.args.view.now.log.now c.args.event c.index-view-event.result v.events c.requires in
    deciding h v (record { here = here; fault = fault (event_of item) here }))
    c.claim_in.ensures.deciding

pub returns-clause-ranges : goal.returns-clause-ranges
returns-clause-ranges g c = IfOk-weaker c.claim_in.result _ _
    (λ claim deciding h v fault.
    let item = get_or c.args.view.now.log.now c.args.event c.index-view-event.result in
    let here = logged h c.args.view.now.log.now c.args.event c.index-view-event.result v.events c.requires in
    bounds_within h claim.bounds (deciding h v (record { here = here; fault = fault (event_of item) here })))
    c.claim_in.ensures.deciding
