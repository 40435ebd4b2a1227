use Rattle.serial_machine.proofs.Entering.{line_found, line_none}
use Rattle.serial_machine.proofs.rows.line_of.Goals as goal

pub returns-in-Some : goal.returns-in-Some
returns-in-Some c = λ h has. line_found h c.args.log.now c.args.number c.in-Some.event.now has c.in-Some.ensures

pub returns-in-None : goal.returns-in-None
returns-in-None c = λ h has. line_none h c.args.log.now c.args.number has c.in-None.ensures
