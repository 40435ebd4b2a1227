use Rattle.std.proofs.Common.{drop, map}
use Rattle.object_past.specs.Modelled.{version_of}
use Rattle.log_context.specs.Histories.{history_of}
use Rattle.serial_machine.proofs.Gathering.{AreRowsBefore}
use Rattle.serial_machine.specs.Ordered.{placed_puts, puts_above}
use Rattle.serial_machine.proofs.rows.put_rows.Given as goal

abbrev pub invariant-loop-version : goal.invariant-loop-version
invariant-loop-version l = AreRowsBefore (history_of l.context) (placed_puts (history_of l.context)) (puts_above (history_of l.context).start (map version_of (drop l.version-index l.versions))) l.rows.items
