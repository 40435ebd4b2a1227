use Rattle.std.proofs.Common.{take}
use Rattle.log_context.specs.LogTrees.{checkpoint_trees}
use Rattle.log_context.specs.Logged.{AreLoggedCheckpoints}
use Rattle.log_context.proofs.PoolLemmas.{IsGrown}
use Rattle.log_context.proofs.log.checkpoint.checkpoints_of.Given as goal

abbrev pub invariant-loop-i : goal.invariant-loop-i
invariant-loop-i l = record {
  logged : AreLoggedCheckpoints l.pool.trees (take l.i l.checkpoints) l.all;
  grown : IsGrown l.initial.pool l.pool (checkpoint_trees (take l.i l.checkpoints));
}
