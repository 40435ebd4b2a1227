use Rattle.std.proofs.Common.{subst}
use Rattle.rbac_timeline.specs.Unsure.{AreFound}
use Rattle.rbac_timeline.proofs.Gathering.{behind_more}
use Rattle.rbac_timeline.proofs.unsure.Unsure.add_each.Goals as goal

pub loop-key-preserved : goal.loop-key-preserved
loop-key-preserved c = λ keys are.
    subst (λ l. AreFound c.add.new.self l) (behind_more keys c.args.more.now _ c.key-item.result c.loop-key-test.true c.key-item.is) (c.in_ok-add.ensures _ (c.loop-key.invariant keys are))
