use Rattle.serial_machine.proofs.Firsts.{NoneBefore, Stands}
use Rattle.serial_machine.proofs.standing.first_standing.Given as goal
use Rattle.log_context.specs.Histories.{history_of}

abbrev pub invariant-loop-number : goal.invariant-loop-number
invariant-loop-number l = NoneBefore (history_of l.context) (Stands (history_of l.context)) l.number
