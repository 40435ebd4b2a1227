use Rattle.std.proofs.Common.{None, Some, refl}
use Rattle.object_past.specs.Modelled.{recorded}
use Rattle.serial_machine.proofs.Wording.{removal_said}
use Rattle.serial_machine.proofs.words.removed_word.Goals as goal

pub returns-in-Some : goal.returns-in-Some
returns-in-Some c = λ h p. (recorded c.in-Some.removal.now, removal_said c.args.past.now h c.args.number p (Some c.in-Some.removal.now) c.in-Some.ensures, refl)

pub returns-in-None : goal.returns-in-None
returns-in-None c = λ h p. removal_said c.args.past.now h c.args.number p None c.in-None.ensures
