use Rattle.std.proofs.Common.{[]}
use Rattle.cluster_setup.specs.Parts.{shape_tree}
use Rattle.cluster_setup.proofs.Gathered.{mapped}
use Rattle.cluster_setup.proofs.shapes.shape_list.Goals as goal

pub loop-shape-preserved : goal.loop-shape-preserved
loop-shape-preserved c =
    mapped shape_tree c.args.shapes.now c.loop-shape.shape-index _ c.in_ok-shape_tree.field-0 [] c.loop-shape.all.items c.push.new.self.items
    c.loop-shape-test.true c.loop-shape.invariant c.in_ok-shape_tree.ensures c.in_ok-push.ensures.items
