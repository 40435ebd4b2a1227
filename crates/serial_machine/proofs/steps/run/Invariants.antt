use Rattle.std.proofs.Common.{take}
use Rattle.log_context.specs.Histories.{history_of}
use Rattle.serial_machine.proofs.Running.{HasRun}
use Rattle.serial_machine.proofs.steps.run.Given as goal

-- the rows so far are made
abbrev pub invariant-loop-row : goal.invariant-loop-row
invariant-loop-row l = HasRun (history_of l.context) l.machine (take l.row-index l.rows)
