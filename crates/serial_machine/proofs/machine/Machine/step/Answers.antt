use Rattle.std.proofs.Common.{◌++◌}
use Rattle.log_context.specs.Histories.{history_of}
use Rattle.serial_machine.proofs.Entering.{line_made, line_nowhere}
use Rattle.serial_machine.specs.Held.{end_of_steps, unmade_puts}
use Rattle.serial_machine.specs.Stepping.{step_of}
use Rattle.serial_machine.proofs.machine.Machine.step.Goals as goal

pub right_step-requires-clause-rooms : goal.right_step-requires-clause-rooms
right_step-requires-clause-rooms c = c.requires.1.rooms

pub right_step-requires-clause-uses : goal.right_step-requires-clause-uses
right_step-requires-clause-uses c = c.requires.1.uses

pub returns-in-Some-clause-made : goal.returns-in-Some-clause-made
returns-in-Some-clause-made c = λ done made.
    let right = rw c.in-Some.is at c.in_ok-step.ensures.right done made in
    let h = history_of c.args.context.now in
    line_made h done c.args.placed.now c.args.self.now c.put_unmade.new.self c.make.new.self (step_of c.in-Some.step) c.place.result right c.place.ensures (c.put_unmade.ensures done made)
    (λ known put. c.make.ensures h (done ++ unmade_puts h (end_of_steps h.start done) c.place.result) known put)

pub returns-in_default-clause-made : goal.returns-in_default-clause-made
returns-in_default-clause-made c = λ done made.
    let right = rw c.in_default.is at c.in_ok-step.ensures.right done made in
    line_nowhere (history_of c.args.context.now) done c.args.placed.now c.args.self.now right
