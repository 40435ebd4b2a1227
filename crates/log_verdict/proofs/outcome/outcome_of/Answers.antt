use Rattle.std.proofs.Common.{◌≡◌, ◌<◌, length, All, IsPermutation, sym, ap, ◌∙◌, subst}
use Rattle.std.specs.List.{range_with_len}
use Rattle.std.proofs.lemmas.Result.{IfOk-weaker}
use Rattle.base_types.specs.declared.verdict.claim.Claim.{Claim}
use Rattle.history_model.specs.Placed.{ArePlacedLines}
use Rattle.log_context.specs.Histories.{history_of}
use Rattle.log_verdict.proofs.OutcomeClaims.{breaks_known, breaks_of, explained_is, explains, given_places, least_of, named, unexplained_is}
use Rattle.log_verdict.proofs.OutcomeOrder.{ordered}
use Rattle.log_verdict.proofs.OutcomeSharing.{context_shared}
use Rattle.log_verdict.specs.Findings.{ExplainsEach}
use denote.Param.Send.{sendable}
use Rattle.log_verdict.proofs.outcome.outcome_of.Goals as goal

pub claims_all-requires-sync-S : goal.claims_all-requires-sync-S
claims_all-requires-sync-S g c = λ κs lives. search (context_shared, sendable) depth 20

pub settle-requires-clause-order : goal.settle-requires-clause-order
settle-requires-clause-order g c =
    let known = c.args.context.now in
    let long : length known.log ≡ length c.as_slice.result.now = sym c.in_ok-claims.ensures.claims.all ∙ ap length (sym c.as_slice.ensures) in
    subst (IsPermutation (range_with_len 0 (length c.as_slice.result.now))) (sym c.order.ensures.order) (subst (λ n. IsPermutation (range_with_len 0 n) known.order) long (ordered known c.order.ensures.readable))

pub settle-requires-clause-bounds : goal.settle-requires-clause-bounds
settle-requires-clause-bounds g c =
    subst (All (λ (claim : Claim). All (λ bound. bound.range < length c.ranges-2.result.now) claim.bounds)) (sym c.as_slice.ensures)
    (named c.args.context.now c.in_ok-claims.claims c.in_ok-claims.ensures.claims c.ranges-2.result.now c.ranges-2.ensures)

pub settle-requires-clause-places : goal.settle-requires-clause-places
settle-requires-clause-places g c = given_places c.args.context.now c.ranges-2.result.now c.order.ensures.readable c.ranges-2.ensures

pub placed-requires-clause-explains : goal.placed-requires-clause-explains
placed-requires-clause-explains g c κs within =
    let known = c.args.context.now in
    let least = least_of known c.in_ok-claims.claims c.in_ok-claims.ensures.claims c.ranges-2.result.now c.order.result.now c.as_slice.result.now c.in_ok-settled.settled c.in-Fits.choice c.ranges-2.ensures c.as_slice.ensures c.in-Fits.is c.in_ok-settled.ensures.settled in
    subst (ExplainsEach known) (sym c.as_slice-in-Fits.ensures) (explains known c.in_ok-claims.claims c.in_ok-claims.ensures.claims c.in-Fits.choice least)

pub returns-in-Fits-clause-outcome : goal.returns-in-Fits-clause-outcome
returns-in-Fits-clause-outcome g c =
    let known = c.args.context.now in
    let least = least_of known c.in_ok-claims.claims c.in_ok-claims.ensures.claims c.ranges-2.result.now c.order.result.now c.as_slice.result.now c.in_ok-settled.settled c.in-Fits.choice c.ranges-2.ensures c.as_slice.ensures c.in-Fits.is c.in_ok-settled.ensures.settled in
    explained_is known c.in_ok-claims.claims c.in_ok-claims.ensures.claims c.in-Fits.choice c.in_ok-lines-in-Fits.lines c.order.ensures.readable least
    (subst (λ choice. ArePlacedLines (history_of known) choice c.in_ok-lines-in-Fits.lines) c.as_slice-in-Fits.ensures c.in_ok-lines-in-Fits.ensures)

pub unexplained-requires-clause-known : goal.unexplained-requires-clause-known
unexplained-requires-clause-known g c =
    let known = c.args.context.now in
    let breaks = breaks_of known c.in_ok-claims.claims c.in_ok-claims.ensures.claims c.ranges-2.result.now c.order.result.now c.as_slice.result.now c.in_ok-settled.settled c.in-Breaks.event c.in-Breaks.reason
    c.ranges-2.ensures c.order.ensures.order c.as_slice.ensures c.in-Breaks.is c.in_ok-settled.ensures.settled in
    breaks_known known _ c.in_ok-claims.claims c.in-Breaks.event c.in-Breaks.reason c.order.ensures.readable breaks

pub returns-in-Fits-clause-entered : goal.returns-in-Fits-clause-entered
returns-in-Fits-clause-entered g c = c.in_ok-claims.ensures.entered

pub returns-clause-outcome : goal.returns-clause-outcome
returns-clause-outcome g c =
    let known = c.args.context.now in
    let breaks = breaks_of known c.in_ok-claims.claims c.in_ok-claims.ensures.claims c.ranges-2.result.now c.order.result.now c.as_slice.result.now c.in_ok-settled.settled c.in-Breaks.event c.in-Breaks.reason
    c.ranges-2.ensures c.order.ensures.order c.as_slice.ensures c.in-Breaks.is c.in_ok-settled.ensures.settled in
    IfOk-weaker c.unexplained.result _ _ (λ outcome finding. unexplained_is known c.in_ok-claims.claims c.in_ok-claims.ensures.claims c.in-Breaks.event c.in-Breaks.reason outcome c.order.ensures.readable breaks finding) c.unexplained.ensures

pub returns-clause-entered : goal.returns-clause-entered
returns-clause-entered g c = IfOk-weaker c.unexplained.result _ _ (λ outcome finding. c.in_ok-claims.ensures.entered) c.unexplained.ensures
