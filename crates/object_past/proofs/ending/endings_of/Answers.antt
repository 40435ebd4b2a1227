use Rattle.object_past.proofs.Ended.{AreEndings-sorted}
use Rattle.object_past.proofs.ending.endings_of.Goals as goal

pub returns : goal.returns
returns c = AreEndings-sorted _ _ _ c.in_ok-listed.ensures c.in_ok-endings.ensures.same c.in_ok-endings.ensures.order
