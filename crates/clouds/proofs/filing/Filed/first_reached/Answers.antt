use Rattle.clouds.proofs.Keeping.{IsFirstPlace-filed}
use Rattle.clouds.proofs.filing.Filed.first_reached.Goals as goal

pub returns : goal.returns
returns c =
    let named = rw c.get.ensures.value at c.first_reached.ensures in
    λ spans filed. rw c.lesser_place.ensures (IsFirstPlace-filed _ _ spans c.args.key.now c.args.revision c.args.low c.args.high _ _ filed named c.first_reached-2.ensures)
