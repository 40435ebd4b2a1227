use Rattle.std.proofs.Common.{ap, ◌∙◌}
use Rattle.std.specs.List.{flat_map}
use Rattle.base_types.specs.Meaning.{items, kids_of}
use Rattle.base_types.proofs.Prefixes.{take-whole}
use Rattle.cluster_setup.specs.Making.{entries_of}
use Rattle.cluster_setup.proofs.Gathered.{gathered}
use Rattle.cluster_setup.proofs.entries.entries_in.Goals as goal

pub loop-list-preserved : goal.loop-list-preserved
loop-list-preserved c =
    gathered (entries_of c.args.sources.now) c.args.trees.now c.loop-list.list-index c.list-item.result c.loop-list.entries.items c.add_entry.new.entries.items
    c.loop-list-test.true c.list-item.is c.loop-list.invariant c.in_ok-add_entry.ensures

pub returns : goal.returns
returns c =
    c.items.ensures
    ∙ ap (λ all. items (kids_of all))
    (c.loop-list.invariant ∙ ap (flat_map (entries_of c.args.sources.now)) (take-whole c.loop-list.list-index c.args.trees.now c.loop-list-test.false))
