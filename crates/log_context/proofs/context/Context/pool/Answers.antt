use Rattle.std.proofs.Common.{◌≡◌, subst, All}
use Rattle.base_types.specs.Values.{InRange}
use Rattle.log_context.specs.Known.{Known}
use Rattle.log_context.specs.LogTrees.{pooled}
use Rattle.log_context.proofs.context.Context.pool.Goals as goal

pub returns-clause-pooled : goal.returns-clause-pooled
returns-clause-pooled c = subst (λ (k : Known). k.trees ≡ pooled k.setup k.events) c.self.view_is c.self.invariant.trees

pub returns-clause-numbers : goal.returns-clause-numbers
returns-clause-numbers c = subst (λ (k : Known). All InRange k.trees) c.self.view_is c.self.invariant.numbers
