use Rattle.std.proofs.Common.{[]}
use Rattle.cluster_setup.specs.Parts.{with_subresource}
use Rattle.cluster_setup.proofs.Gathered.{folded}
use Rattle.cluster_setup.proofs.entries.subresources_among.Goals as goal

pub loop-name-preserved : goal.loop-name-preserved
loop-name-preserved c =
    folded (λ front name. with_subresource c.args.document.now c.args.resource.now c.args.form front name.now) [] c.args.names.now c.loop-name.name-index _
    c.loop-name.list.items c.add_subresource.new.list.items c.loop-name-test.true c.loop-name.invariant c.in_ok-add_subresource.ensures
