use Rattle.std.proofs.Common.{take}
use Rattle.log_context.specs.LogTrees.{object_trees}
use Rattle.log_context.specs.Shown.{AreItemsOf}
use Rattle.log_context.proofs.PoolLemmas.{IsGrown}
use Rattle.log_context.proofs.log.shown.items_of.Given as goal

abbrev pub invariant-loop-object : goal.invariant-loop-object
invariant-loop-object l = record {
  items : AreItemsOf l.pool.trees (take l.object-index l.objects) l.items;
  grown : IsGrown l.initial.pool l.pool (object_trees (take l.object-index l.objects));
}
