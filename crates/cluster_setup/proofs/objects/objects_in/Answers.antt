use Rattle.std.proofs.Common.{ap, ◌∙◌}
use Rattle.std.specs.List.{flat_map}
use Rattle.base_types.specs.Meaning.{items, kids_of}
use Rattle.base_types.proofs.Prefixes.{take-whole}
use Rattle.cluster_setup.specs.Making.{objects_of}
use Rattle.cluster_setup.proofs.Gathered.{gathered}
use Rattle.cluster_setup.proofs.objects.objects_in.Goals as goal

pub loop-list-preserved : goal.loop-list-preserved
loop-list-preserved c =
    gathered (objects_of c.args.sources.now) c.args.shown.now c.loop-list.list-index c.list-item.result c.loop-list.objects.items c.add_objects.new.objects.items
    c.loop-list-test.true c.list-item.is c.loop-list.invariant c.in_ok-add_objects.ensures

pub returns : goal.returns
returns c =
    c.items.ensures
    ∙ ap (λ all. items (kids_of all))
    (c.loop-list.invariant ∙ ap (flat_map (objects_of c.args.sources.now)) (take-whole c.loop-list.list-index c.args.shown.now c.loop-list-test.false))
