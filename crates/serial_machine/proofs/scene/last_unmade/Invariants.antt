use Rattle.log_context.specs.Histories.{history_of}
use Rattle.serial_machine.proofs.Seeking.{AreUpto}
use Rattle.serial_machine.proofs.scene.last_unmade.Given as goal

-- those of the key are up to the place
abbrev pub invariant-loop-place : goal.invariant-loop-place
invariant-loop-place l = AreUpto (history_of l.context) l.key l.low l.high l.place

abbrev pub decreases-loop-place : goal.decreases-loop-place
decreases-loop-place l = l.place
