use Rattle.std.proofs.Common.{subst}
use Rattle.past_building.specs.Modelled.{AreCloudsOf}
use Rattle.log_context.specs.Histories.{history_of}
use Rattle.log_context.specs.Known.{Known}
use Rattle.log_context.proofs.context.Context.clouds.Goals as goal

pub returns : goal.returns
returns c = subst (λ (k : Known). AreCloudsOf c.self.inside.clouds (history_of k)) c.self.view_is c.self.invariant.clouds_of
