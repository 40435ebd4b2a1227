use Rattle.rbac_timeline.specs.declared.history.Stored.{Stored}
use Rattle.rbac_timeline.proofs.Cutting.{AreStoredBetween-cut, front_in_order}
use Rattle.rbac_timeline.proofs.history.between.Goals as goal

pub count_upto-begun-requires : goal.count_upto-begun-requires
count_upto-begun-requires c =
    rw c.split_at.ensures.front (front_in_order (λ (s : Stored). s.revision) c.args.all.now c.count_upto-upto.result c.requires)

pub returns : goal.returns
returns c =
    let upto = c.count_upto-upto.ensures in
    let begun = rw c.split_at.ensures.front at c.count_upto-begun.ensures in
    rw (c.split_at-2.ensures.back, c.split_at.ensures.front)
    (AreStoredBetween-cut c.args.all.now c.args.low c.args.high c.count_upto-upto.result c.count_upto-begun.result upto.parts upto.bound begun.parts begun.bound)
