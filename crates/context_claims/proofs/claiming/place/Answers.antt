use Rattle.std.proofs.lemmas.Result.{IfOk-weaker}
use Rattle.log_context.specs.Histories.{history_of}
use Rattle.context_claims.proofs.claiming.place.Goals as goal

pub returns : goal.returns
returns c = IfOk-weaker c.placed_line.result _ _ (λ found lined e known chosen. lined (history_of c.args.context.now) e c.view_of-view.ensures.view c.fault.ensures known chosen) c.placed_line.ensures
