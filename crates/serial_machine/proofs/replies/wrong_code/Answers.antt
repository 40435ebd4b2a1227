use Rattle.std.proofs.Common.{Some, sym, subst}
use Rattle.history_model.specs.Machine.{Reply}
use Rattle.log_context.specs.Histories.{history_of}
use Rattle.write_groups.specs.Modelled.{event_of}
use Rattle.serial_machine.specs.Stepping.{IsVerdictOn}
use Rattle.serial_machine.proofs.Allowing.{code_by, wrong_code}
use Rattle.serial_machine.proofs.Entering.{event_within}
use Rattle.serial_machine.proofs.replies.wrong_code.Goals as goal

pub fault-requires : goal.fault-requires
fault-requires c = event_within c.args.context.now.log c.args.number (event_of c.args.event.now) c.requires.known

pub returns-in-Some : goal.returns-in-Some
returns-in-Some c = λ place objects wrong. code_by (history_of c.args.context.now) c.args.number (event_of c.args.event.now) c.requires.known c.requires.placed c.fault.result
    (c.fault.ensures (event_of c.args.event.now) c.requires.known) place objects wrong c.in-Some.code c.in-Some.is

pub returns-in-None : goal.returns-in-None
returns-in-None c = λ place objects wrong. subst (λ z. IsVerdictOn (history_of c.args.context.now) objects (Reply c.args.number (event_of c.args.event.now) place) (Some z)) (sym c.code_of.ensures)
    (wrong_code (history_of c.args.context.now) c.args.number (event_of c.args.event.now) c.requires.known c.requires.placed c.fault.result
    (c.fault.ensures (event_of c.args.event.now) c.requires.known) place objects wrong c.in-None.is)
