use Rattle.std.proofs.Common.{subst}
use Rattle.rbac_timeline.specs.Indexed.{IsIndexed}
use Rattle.rbac_timeline.proofs.Mentions.{mentioned_more}
use Rattle.rbac_timeline.proofs.index.Index.add_each.Goals as goal

pub loop-subject-preserved : goal.loop-subject-preserved
loop-subject-preserved c = λ mentions are.
    subst (λ l. IsIndexed c.add.new.self l) (mentioned_more mentions c.args.key.now c.args.subjects.now _ c.subject-item.result c.loop-subject-test.true c.subject-item.is)
    (c.in_ok-add.ensures _ (c.loop-subject.invariant mentions are))
