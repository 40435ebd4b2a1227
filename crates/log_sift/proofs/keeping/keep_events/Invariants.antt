use Rattle.std.proofs.Common.{◌≡◌, ◌++◌, None}
use Rattle.std.specs.Vec.Iter.{into_iter_items}
use Rattle.log_intake.specs.Steps.{InOrder}
use Rattle.log_sift.specs.Recalling.{Moves}
use Rattle.log_sift.specs.Sift.{KeepsEvent}
use Rattle.log_sift.proofs.keeping.keep_events.Given as goal

abbrev pub invariant-loop-event : goal.invariant-loop-event
invariant-loop-event l = record {
  all : l.fn.events ≡ l.yielded ++ into_iter_items l.event-iterator;
  moves : Moves l.initial.kept.entries l.kept.entries (λ kept. InOrder KeepsEvent kept l.yielded) None;
}
