use Rattle.std.proofs.Common.{subst}
use Rattle.setup_file.specs.Sound.{IsSound}
use Rattle.log_context.specs.Known.{Known}
use Rattle.log_context.proofs.context.Context.setup.Goals as goal

pub returns-clause-sound : goal.returns-clause-sound
returns-clause-sound c = subst (λ (k : Known). IsSound k.setup) c.self.view_is c.self.invariant.setup
