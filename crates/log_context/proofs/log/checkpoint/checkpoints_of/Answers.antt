use Rattle.std.proofs.Common.{◌≡◌, ◌∙◌, ◌∷◌, [], Err, ap}
use Rattle.setup_file.specs.declared.setup.Checkpoint.{Checkpoint}
use Rattle.log_context.specs.LogTrees.{object_trees, checkpoint_trees}
use Rattle.log_context.specs.declared.log.fault.BuildFault.TheVariants.{PoolFull}
use Rattle.log_context.proofs.LoggedLemmas.{logged_checkpoint_next}
use Rattle.log_context.proofs.PoolLemmas.{IsGrown, flattened_join, grown_one, full_one, loop_grown, loop_full, grown_begins, passed_on}
use Rattle.log_context.proofs.log.checkpoint.checkpoints_of.Goals as goal

pub returns-in_err-logged_checkpoint-clause-full : goal.returns-in_err-logged_checkpoint-clause-full
returns-in_err-logged_checkpoint-clause-full c = λ refused.
    let l = c.loop-i in
    let f = λ (checkpoint : Checkpoint). object_trees checkpoint.items in
    let full : c.logged_checkpoint.result ≡ Err PoolFull = c.in_err-logged_checkpoint.was ∙ ap Err (passed_on c.from_residual.result _ PoolFull c.from_residual.ensures.1 refused) in
    loop_full checkpoint_trees (flattened_join f) c.args.pool.now l.pool c.args.checkpoints.now l.i c.index-checkpoints-i.result c.loop-i-test.true c.index-checkpoints-i.is l.invariant.grown
    (full_one f l.pool c.index-checkpoints-i.result (c.logged_checkpoint.ensures.full full))

pub loop-i-preserved : goal.loop-i-preserved
loop-i-preserved c =
    let l = c.loop-i in
    let f = λ (checkpoint : Checkpoint). object_trees checkpoint.items in
    let new = c.logged_checkpoint.new.pool in
    let checkpoint = c.index-checkpoints-i.result in
    let e = c.in_ok-logged_checkpoint.ensures in
    let within = c.loop-i-test.true in
    let is = c.index-checkpoints-i.is in
    let one : IsGrown l.pool new (checkpoint_trees (checkpoint ∷ [])) = grown_one f l.pool new checkpoint (record { holds = e.added; limit = e.limit }) in
    record {
      logged = logged_checkpoint_next l.pool.trees new.trees (grown_begins l.pool new (checkpoint_trees (checkpoint ∷ [])) one) c.args.checkpoints.now l.all c.push.new.self l.i checkpoint c.in_ok-logged_checkpoint.field-0 within is
          c.in_ok-push.ensures.ok l.invariant.logged e.logged;
      grown = loop_grown checkpoint_trees (flattened_join f) c.args.pool.now l.pool new c.args.checkpoints.now l.i checkpoint within is l.invariant.grown one;
    }
