use Rattle.std.proofs.Common.{◌≡◌, ◌+◌, ◌++◌, length}
use Rattle.std.specs.Vec.Iter.{into_iter_items, into_iter_len}
use Rattle.log_context.specs.Classified.{AddsLogged, AddsSelectors, classified_trees}
use Rattle.log_context.proofs.PoolLemmas.{IsGrown}
use Rattle.log_context.proofs.log.event.add_all.Given as goal

abbrev pub invariant-loop-one : goal.invariant-loop-one
invariant-loop-one l = record {
  split : l.fn.classified.items ≡ l.yielded ++ into_iter_items l.one-iterator;
  left : into_iter_len l.one-iterator ≡ length (into_iter_items l.one-iterator);
  counted : length l.all.events ≡ length l.initial.all.events + length l.yielded;
  logged : AddsLogged l.initial.pool.trees l.pool.trees l.yielded l.initial.all.events l.all.events;
  selectors : AddsSelectors l.initial.all.events l.yielded l.initial.all.selectors l.all.selectors;
  grown : IsGrown l.initial.pool l.pool (classified_trees l.yielded);
}
