use Rattle.std.proofs.Common.{take}
use Rattle.log_context.specs.Histories.{history_of}
use Rattle.serial_machine.proofs.Starting.{IsBegun}
use Rattle.serial_machine.proofs.machine.Machine.start.Given as goal

-- the keys so far hold the revisions of the snapshot
abbrev pub invariant-loop-key : goal.invariant-loop-key
invariant-loop-key l = IsBegun (history_of l.context) (take l.key-index l.keys) l.objects
