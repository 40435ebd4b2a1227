use Rattle.std.proofs.Common.{ap, is_some, ◌∙◌}
use Rattle.std.proofs.lemmas.Bool.{false≢true}
use Rattle.serial_machine.proofs.machine.hold.Goals as goal

pub returns-in_default : goal.returns-in_default
returns-in_default c = λ some. absurd (false≢true (ap is_some c.in_default.ensures.value ∙ some))

pub returns : goal.returns
returns c = λ some. (c.get_mut.follows.holds c.args.revision).3 some
