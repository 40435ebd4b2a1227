use Rattle.serial_machine.proofs.Differing.{AreAlikeUpTo}
use Rattle.serial_machine.proofs.lines.first_difference.Given as goal
use Rattle.log_context.specs.Histories.{history_of}

abbrev pub invariant-loop-number : goal.invariant-loop-number
invariant-loop-number l = AreAlikeUpTo (history_of l.context) l.lines l.number
