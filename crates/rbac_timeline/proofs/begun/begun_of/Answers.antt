use Rattle.rbac_timeline.proofs.Ending.{AreBegun-all, AreBegunTo-more}
use Rattle.rbac_timeline.proofs.begun.begun_of.Goals as goal

pub loop-index-preserved : goal.loop-index-preserved
loop-index-preserved c = λ ends are.
    rw c.in_ok-push.ensures.items (AreBegunTo-more c.args.versions.now ends c.loop-index.index c.loop-index.begun.items c.begun_at.result c.loop-index-test.true c.begun_at.ensures.version
    (c.begun_at.ensures.last ends are) (c.loop-index.invariant ends are))

pub returns : goal.returns
returns c = λ ends are. AreBegun-all c.args.versions.now ends c.loop-index.index c.loop-index.begun.items c.loop-index-test.false (c.loop-index.invariant ends are)
