use Rattle.rbac_timeline.proofs.Ruling.{AreReigning-begun}
use Rattle.rbac_timeline.proofs.reign_index.ReignIndex.of.Goals as goal

pub returns : goal.returns
returns c = λ ends are. AreReigning-begun c.in_ok-index.index c.args.versions.now ends c.in_ok-begun.begun.items (c.in_ok-begun.ensures ends are) (rw c.as_slice.ensures.value at c.in_ok-index.ensures)
