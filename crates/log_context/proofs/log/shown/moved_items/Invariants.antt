use Rattle.std.proofs.Common.{◌≡◌, ◌++◌, length}
use Rattle.std.specs.Vec.Iter.{into_iter_items, into_iter_len}
use Rattle.log_context.specs.LogTrees.{object_trees}
use Rattle.log_context.specs.Shown.{AreItemsOf}
use Rattle.log_context.proofs.PoolLemmas.{IsGrown}
use Rattle.log_context.proofs.log.shown.moved_items.Given as goal

abbrev pub invariant-loop-object : goal.invariant-loop-object
invariant-loop-object l = record {
  split : l.fn.objects ≡ l.yielded ++ into_iter_items l.object-iterator;
  left : into_iter_len l.object-iterator ≡ length (into_iter_items l.object-iterator);
  items : AreItemsOf l.pool.trees l.yielded l.items;
  grown : IsGrown l.initial.pool l.pool (object_trees l.yielded);
}
