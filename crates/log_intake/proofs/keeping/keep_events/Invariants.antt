use Rattle.std.proofs.Common.{◌≡◌, ◌+◌, ◌++◌, Ok, length}
use Rattle.std.specs.Vec.Iter.{into_iter_items}
use Rattle.log_intake.specs.Kept.{AreBefore}
use Rattle.log_intake.specs.Log.{TakesEvent, numbered_events}
use Rattle.log_intake.specs.Steps.{InOrder}
use Rattle.log_intake.proofs.keeping.keep_events.Given as goal

abbrev pub invariant-loop-event : goal.invariant-loop-event
invariant-loop-event l = record {
  all : l.fn.events ≡ l.yielded ++ into_iter_items l.event-iterator;
  number : l.number ≡ l.first + length l.yielded;
  takes : InOrder TakesEvent l.initial.seen (numbered_events l.first l.yielded) (Ok l.seen);
  before : AreBefore l.number l.seen;
}
