use Rattle.rbac_timeline.proofs.Ending.{LastsUpto-min}
use Rattle.rbac_timeline.proofs.begun.begun_at.Goals as goal

pub returns-clause-last : goal.returns-clause-last
returns-clause-last c = λ ends are.
    let removal = rw c.get.ensures.value at (c.removal_of.ensures ends are) in
    rw c.min.ensures (LastsUpto-min c.args.versions.now ends c.index-versions-index.result c.behind.result c.removal_of.result c.before_next-next.result c.before_end-end.result c.behind.ensures removal
    c.before_next-next.ensures c.before_end-end.ensures)
