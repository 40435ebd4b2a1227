use Rattle.std.proofs.Common.{drop, map}
use Rattle.object_past.specs.Modelled.{recorded}
use Rattle.log_context.specs.Histories.{history_of}
use Rattle.serial_machine.proofs.Gathering.{AreRowsBefore}
use Rattle.serial_machine.specs.Ordered.{placed_removal, placed_removals}
use Rattle.serial_machine.proofs.rows.removal_rows.Given as goal

abbrev pub invariant-loop-removal : goal.invariant-loop-removal
invariant-loop-removal l = AreRowsBefore (history_of l.context) (placed_removals (history_of l.context) l.lines) (map (placed_removal l.lines) (map recorded (drop l.removal-index l.removals))) l.rows.items
