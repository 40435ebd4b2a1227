use Rattle.rbac_timeline.proofs.Storing.{AreGaps-more}
use Rattle.rbac_timeline.proofs.history.removals_of.Goals as goal

pub loop-end-preserved : goal.loop-end-preserved
loop-end-preserved c = AreGaps-more _ _ c.args.ends.now _ c.end-item.result c.loop-end-test.true c.end-item.is c.in_ok-add_end.ensures c.loop-end.invariant
