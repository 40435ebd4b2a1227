use Rattle.rbac_timeline.proofs.Ending.{AreBegun-permuted}
use Rattle.rbac_timeline.proofs.begun.in_order.Goals as goal

pub returns : goal.returns
returns c = λ ends are. AreBegun-permuted c.args.versions.now ends _ _ c.sort_by_key.ensures.permutation (c.in_ok-begun.ensures ends are)
