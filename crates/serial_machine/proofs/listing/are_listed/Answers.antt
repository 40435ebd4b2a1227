use Rattle.history_model.specs.Right.{IsListed}
use Rattle.log_context.specs.Histories.{history_of}
use Rattle.write_groups.specs.Modelled.{item_of}
use Rattle.write_groups.specs.declared.event.Item.{Item}
use Rattle.serial_machine.specs.Stepping.{scene_objects}
use Rattle.serial_machine.proofs.Telling.{all_more, all_done, one_fails, untold}
use Rattle.serial_machine.proofs.listing.are_listed.Goals as goal

pub returns-then-not-branch : goal.returns-then-not-branch
returns-then-not-branch c = one_fails (λ (item : Item). IsListed (history_of c.args.scene.context.now) c.args.number c.args.place (item_of item) (scene_objects c.args.scene item.key)) c.args.items.now
    c.loop-item.item-index c.item-item.result c.loop-item-test.true c.item-item.is (untold _ c.in_ok-is_listed.ensures c.if-not-branch.true)

pub loop-item-preserved : goal.loop-item-preserved
loop-item-preserved c = all_more (λ (item : Item). IsListed (history_of c.args.scene.context.now) c.args.number c.args.place (item_of item) (scene_objects c.args.scene item.key)) c.args.items.now
    c.loop-item.item-index c.item-item.result c.loop-item-test.true c.item-item.is (c.in_ok-is_listed.ensures.0 c.if-not-branch.false) c.loop-item.invariant

pub returns : goal.returns
returns c = all_done (λ (item : Item). IsListed (history_of c.args.scene.context.now) c.args.number c.args.place (item_of item) (scene_objects c.args.scene item.key)) c.args.items.now
    c.loop-item.item-index c.loop-item-test.false c.loop-item.invariant
