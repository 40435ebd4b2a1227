use Rattle.std.proofs.Common.{◌≡◌, ◌++◌}
use Rattle.std.specs.Slice.Iter.{chunks_rest}
use Rattle.log_context.proofs.Batches.{AreAhead, all_of}
use Rattle.log_context.proofs.log.event.events_of.Given as goal

abbrev pub invariant-loop-batch : goal.invariant-loop-batch
invariant-loop-batch g l = record {
  split : l.events ≡ all_of l.yielded ++ chunks_rest l.batch-iterator;
  ahead : AreAhead l.setup l.initial.pool l.pool (all_of l.yielded) l.all.events l.all.selectors l.ahead.items;
}
