use Rattle.std.proofs.lemmas.Result.{IfOk-weaker}
use Rattle.context_claims.proofs.Results.{both_ok}
use Rattle.log_context.specs.Histories.{history_of}
use Rattle.context_claims.proofs.claiming.claim.Goals as goal

pub returns-clause-of_event : goal.returns-clause-of_event
returns-clause-of_event c =
    let h = history_of c.args.context.now in
    both_ok c.claim_of.result _ _ _ (λ claim exact deciding. record {
      exact = λ e known. exact h e c.view_of-view.ensures.view c.fault.ensures known;
      deciding = deciding h c.view_of-view.ensures.view c.fault.ensures;
    }) c.claim_of.ensures.exact c.claim_of.ensures.deciding

pub returns-clause-exact : goal.returns-clause-exact
returns-clause-exact c = IfOk-weaker c.claim_of.result _ _ (λ claim exact e known. exact (history_of c.args.context.now) e c.view_of-view.ensures.view c.fault.ensures known) c.claim_of.ensures.exact

pub returns-clause-deciding : goal.returns-clause-deciding
returns-clause-deciding c = IfOk-weaker c.claim_of.result _ _ (λ claim deciding. deciding (history_of c.args.context.now) c.view_of-view.ensures.view c.fault.ensures) c.claim_of.ensures.deciding

pub returns-clause-ranges : goal.returns-clause-ranges
returns-clause-ranges c = IfOk-weaker c.claim_of.result _ _ (λ claim ranges. ranges (history_of c.args.context.now) c.view_of-view.ensures.view c.fault.ensures) c.claim_of.ensures.ranges
