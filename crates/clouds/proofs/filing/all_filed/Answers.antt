use Rattle.clouds.proofs.Keeping.{AreFiled-permuted}
use Rattle.clouds.proofs.filing.all_filed.Goals as goal

pub returns : goal.returns
returns c = let f = rw c.deref.ensures.value at c.in_ok-filed.ensures in AreFiled-permuted _ _ _ _ c.in_ok-order.ensures f
