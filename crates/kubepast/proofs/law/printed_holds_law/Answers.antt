use Rattle.kubepast.proofs.PrintedHoldsFacts.{printed_holds}
use Rattle.kubepast.proofs.law.printed_holds_law.Goals as goal

pub returns : goal.returns
returns c = printed_holds c.placement_law.ensures
