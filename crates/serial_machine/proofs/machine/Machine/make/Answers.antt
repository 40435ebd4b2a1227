use Rattle.serial_machine.specs.Stepping.{step_of}
use Rattle.serial_machine.proofs.Changing.{made_more}
use Rattle.serial_machine.proofs.machine.Machine.make.Goals as goal

pub returns : goal.returns
returns c = λ h done known made. made_more h c.args.self.now _ done (step_of c.args.step) made
    (c.change.ensures.rooms h known made.readable made.rooms) made.uses
    (λ key. c.change.ensures.objects h key known made.readable made.rooms) c.place-self.ensures
