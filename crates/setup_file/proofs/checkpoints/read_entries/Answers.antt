use Rattle.std.proofs.Common.{refl, sym, ◌∙◌}
use Rattle.setup_file.specs.Checkpoints.{checkpoint_of, checkpoints_from}
use Rattle.setup_file.proofs.Gathered.{gathered_from}
use Rattle.setup_file.proofs.checkpoints.read_entries.Goals as goal

pub loop-i-preserved : goal.loop-i-preserved
loop-i-preserved c =
    rw c.in_ok-push.ensures.ok
    (gathered_from (checkpoint_of c.args.start c.args.resources.now) (checkpoints_from c.args.start c.args.resources.now) (λ n x xs. refl) _ c.args.values.now c.loop-i.i c.index-values-i.result c.loop-i.checkpoints c.in-Some.checkpoint c.loop-i-test.true c.index-values-i.is
    (sym c.in_ok-checkpoint.ensures ∙ c.in-Some.is) c.loop-i.invariant)
