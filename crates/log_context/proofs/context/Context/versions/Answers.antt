use Rattle.std.proofs.Common.{◌<◌, length, subst, All}
use Rattle.object_past.specs.declared.version.Version.{Version}
use Rattle.log_context.specs.Known.{Known}
use Rattle.log_context.proofs.context.Context.versions.Goals as goal

pub returns-clause-nodes : goal.returns-clause-nodes
returns-clause-nodes c = subst (λ (k : Known). All (λ (v : Version). v.node.0 < length k.trees) k.versions) c.self.view_is c.self.invariant.nodes
