use Rattle.std.proofs.Common.{subst}
use Rattle.std.specs.Prelude.{Contains, IfSome}
use Rattle.log_context.specs.Known.{Known}
use Rattle.log_context.proofs.context.Context.latest.Goals as goal

pub returns-clause-known : goal.returns-clause-known
returns-clause-known c = subst (λ (k : Known). IfSome c.latest.result (λ v. Contains k.versions v.now)) c.self.view_is c.latest.ensures.known
