use Rattle.history_model.specs.Bounding.{Shows}
use Rattle.write_groups.specs.declared.event.Item.{Item}
use Rattle.write_groups.specs.Modelled.{item_of}
use Rattle.local_bounds.proofs.Askings.{asked_more, asked_all}
use Rattle.local_bounds.proofs.listing.shown_askings.Goals as goal

pub loop-item-preserved : goal.loop-item-preserved
loop-item-preserved g c = λ h k s. asked_more h c.args.number c.args.place (λ (item : Item). Shows (item_of item)) c.args.items.now c.loop-item.item-index c.item-item.result c.loop-item.askings.items c.push.new.self.items c.in_ok-asking.asking
    c.loop-item-test.true c.item-item.is c.in_ok-push.ensures.items (c.loop-item.invariant h k s) (c.in_ok-asking.ensures h k s)

pub returns : goal.returns
returns g c = λ h k s. asked_all h c.args.number c.args.place (λ (item : Item). Shows (item_of item)) c.args.items.now c.loop-item.item-index c.loop-item.askings.items c.loop-item-test.false (c.loop-item.invariant h k s)
