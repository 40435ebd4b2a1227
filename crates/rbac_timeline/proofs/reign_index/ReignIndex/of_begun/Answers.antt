use Rattle.rbac_timeline.proofs.Ruling.{AreReigns-all, AreReigns-more}
use Rattle.rbac_timeline.proofs.reign_index.ReignIndex.of_begun.Goals as goal

pub loop-begun-preserved : goal.loop-begun-preserved
loop-begun-preserved c =
    let added = rw c.named_subjects-subjects.ensures at c.in_ok-add_each.ensures in
    AreReigns-more c.loop-begun.index c.add_each.new.self c.args.versions.now c.loop-begun.begun-index c.begun-item.result c.loop-begun-test.true c.begun-item.is c.loop-begun.invariant added

pub returns : goal.returns
returns c = AreReigns-all c.loop-begun.index c.args.versions.now c.loop-begun.begun-index c.loop-begun-test.false c.loop-begun.invariant
