use Rattle.std.proofs.Common.{drop, map}
use Rattle.log_context.specs.Histories.{history_of}
use Rattle.write_groups.specs.Modelled.{event_of}
use Rattle.serial_machine.proofs.Gathering.{AreRowsBefore}
use Rattle.serial_machine.specs.Ordered.{placed_replies, replies_from}
use Rattle.serial_machine.proofs.rows.reply_rows.Given as goal

abbrev pub invariant-loop-i : goal.invariant-loop-i
invariant-loop-i l = AreRowsBefore (history_of l.context) (placed_replies (history_of l.context) l.lines) (replies_from l.lines l.i (map event_of (drop l.i l.log))) l.rows.items
