use Rattle.std.proofs.Common.{subst}
use Rattle.history_model.specs.Readable.{IsReadable}
use Rattle.log_context.specs.Histories.{history_of}
use Rattle.log_context.specs.Known.{Known}
use Rattle.log_context.proofs.context.Context.order.Goals as goal

pub returns-clause-readable : goal.returns-clause-readable
returns-clause-readable c = subst (λ (k : Known). IsReadable (history_of k)) c.self.view_is c.self.invariant.readable
