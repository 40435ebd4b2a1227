use Rattle.std.proofs.Common.{◌≡◌, [], ap, sym}
use Rattle.clouds.specs.Items.{items_at, items_of}
use Rattle.clouds.specs.Kept.{key_order}
use Rattle.rbac_timeline.proofs.Cutting.{AreStoredBetween-nothing, AreVersionsBetween-stored}
use Rattle.rbac_timeline.proofs.timeline.Timeline.versions_between.Goals as goal

pub returns-in-None : goal.returns-in-None
returns-in-None c =
    let empty : items_at key_order c.self.inside.histories c.args.key.now ≡ [] = ap items_of (sym c.in-None.ensures.value) in
    rw (← c.self.view_is) (AreVersionsBetween-stored c.self.inside.histories _ c.args.key.now c.args.low c.args.high [] [] c.self.invariant.stored empty (AreStoredBetween-nothing c.args.low c.args.high))

pub returns-in-Some : goal.returns-in-Some
returns-in-Some c =
    rw (← c.self.view_is) (AreVersionsBetween-stored c.self.inside.histories _ c.args.key.now c.args.low c.args.high c.in-Some.history.now c.between.result.now c.self.invariant.stored
    (ap items_of (sym c.in-Some.ensures.value)) c.between.ensures)
