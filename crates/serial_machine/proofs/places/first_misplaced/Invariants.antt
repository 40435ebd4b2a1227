use Rattle.serial_machine.proofs.Firsts.{NoneBefore}
use Rattle.serial_machine.proofs.places.first_misplaced.Given as goal
use Rattle.serial_machine.specs.Places.{IsMisplaced}
use Rattle.log_context.specs.Histories.{history_of}

abbrev pub invariant-loop-number : goal.invariant-loop-number
invariant-loop-number l = NoneBefore (history_of l.context) (IsMisplaced (history_of l.context) l.lines) l.number
