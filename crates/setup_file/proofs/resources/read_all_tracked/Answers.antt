use Rattle.std.proofs.Common.{refl, sym, ◌∙◌}
use Rattle.setup_file.specs.Resources.{tracked_of, tracked_in}
use Rattle.setup_file.proofs.Gathered.{gathered}
use Rattle.setup_file.proofs.resources.read_all_tracked.Goals as goal

pub loop-value-preserved : goal.loop-value-preserved
loop-value-preserved c =
    rw c.in_ok-push.ensures.ok
    (gathered tracked_of tracked_in (λ x xs. refl) _ c.args.values.now c.loop-value.value-index c.value-item.result c.loop-value.resources c.in-Some.tracked c.loop-value-test.true c.value-item.is
    (sym c.in_ok-tracked.ensures.tracked ∙ c.in-Some.is) c.loop-value.invariant)
