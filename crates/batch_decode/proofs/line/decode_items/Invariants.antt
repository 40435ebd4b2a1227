use Rattle.std.proofs.Common.{◌≡◌, length, map}
use Rattle.std.specs.Prelude.{All}
use Rattle.borrowed_json.specs.View.{view}
use Rattle.audit_event.specs.Events.{IsSound}
use Rattle.audit_event.specs.Headings.{is_item}
use Rattle.batch_decode.specs.Batches.{AreEventsOf}
use Rattle.batch_decode.proofs.line.decode_items.Given as goal

abbrev pub invariant-loop-i : goal.invariant-loop-i
invariant-loop-i l = record {
  count : length l.events ≡ l.i;
  each : AreEventsOf is_item (map view l.list.items) l.events;
  sound : All IsSound l.events;
}
