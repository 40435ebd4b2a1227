use Rattle.std.proofs.Common.{refl}
use Rattle.log_context.proofs.Telling.{told_of}
use Rattle.log_context.proofs.build.joined.Goals as goal

pub invariant_of-result : goal.invariant_of-result
invariant_of-result c = c.requires

pub returns-clause-told : goal.returns-clause-told
returns-clause-told c = told_of _ _ _ _ _ refl refl c.requires
