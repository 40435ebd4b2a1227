use Rattle.clouds.proofs.Joined.{IsFirstPlace-all, IsFirstPlace-more}
use Rattle.clouds.proofs.unrecorded.Unrecorded.first_reached.Goals as goal

pub loop-part-preserved : goal.loop-part-preserved
loop-part-preserved c =
    rw c.lesser_place-first.ensures (IsFirstPlace-more c.args.key.now c.args.revision c.args.low c.args.high _ _ _ _ _ c.loop-part-test.true c.part-item.is c.loop-part.invariant c.first_reached.ensures)

pub returns : goal.returns
returns c =
    rw (← c.self.view_is, ← c.deref-part-items.ensures.value) (IsFirstPlace-all c.args.key.now c.args.revision c.args.low c.args.high _ _ _ c.loop-part-test.false c.loop-part.invariant)
