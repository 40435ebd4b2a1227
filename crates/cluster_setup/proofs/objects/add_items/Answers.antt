use Rattle.std.proofs.Common.{ap, ◌∙◌}
use Rattle.cluster_setup.specs.Making.{object_entry}
use Rattle.cluster_setup.proofs.Gathered.{mapped}
use Rattle.cluster_setup.proofs.objects.add_items.Goals as goal

pub loop-item-preserved : goal.loop-item-preserved
loop-item-preserved c =
    let entry = object_entry c.args.group.now c.args.name.now c.args.kind.now c.args.version.now in
    mapped entry c.args.list.now c.loop-item.item-index c.item-item.result c.in_ok-object_entry.field-0 c.args.objects.now.items c.loop-item.objects.items c.push.new.self.items
    c.loop-item-test.true c.loop-item.invariant (c.in_ok-object_entry.ensures ∙ ap entry c.item-item.is) c.in_ok-push.ensures.items
